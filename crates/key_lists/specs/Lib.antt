pub mod KeyWords
pub mod Unchecked
pub mod Records
pub mod Keys
