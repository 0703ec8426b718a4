pub mod Levels
pub mod Over
pub mod Definable
