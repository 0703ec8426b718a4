pub mod Entries
pub mod Exports
pub mod Texts
