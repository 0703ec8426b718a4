pub mod DefineLaws
pub mod PlaceLaws
