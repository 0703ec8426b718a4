pub mod Memory
pub mod Reading
