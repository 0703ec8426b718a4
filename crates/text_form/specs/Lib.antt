pub mod Cells
pub mod Lines
pub mod Rows
pub mod Text
pub mod Reader
pub mod Texts
pub mod Examples
