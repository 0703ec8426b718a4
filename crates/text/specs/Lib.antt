pub mod Strings
pub mod Table
pub mod Answers
