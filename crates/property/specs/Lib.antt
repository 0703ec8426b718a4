pub mod Fields
pub mod Descriptor
pub mod Validate
pub mod FirstTest
pub mod Unnumbered
pub mod ArrayIndex
pub mod Answers
