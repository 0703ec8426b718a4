pub mod Lists
pub mod Loading
pub mod Marks
pub mod Messages
