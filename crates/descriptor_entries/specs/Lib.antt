pub mod Entries
pub mod Operations
pub mod Records
pub mod Decided
