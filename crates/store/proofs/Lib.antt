pub mod StoreLaws
pub mod FindLaws
pub mod ReleaseLaws
pub mod NumberLaws
pub mod WordLaws
pub mod PlaceLaws
