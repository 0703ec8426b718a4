pub mod Bytes
pub mod Characters
pub mod Descriptor
pub mod Tests
pub mod Step
pub mod Sheet
