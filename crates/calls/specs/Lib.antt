pub mod Place
pub mod Outs
pub mod Entering
