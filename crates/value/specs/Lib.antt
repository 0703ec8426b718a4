pub mod Value
pub mod PropertyKey
pub mod Words
pub mod Bits
