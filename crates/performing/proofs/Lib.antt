pub mod ResultLaws
pub mod WritingLaws
pub mod ListingLaws
pub mod FitLaws
pub mod CreationLaws
pub mod LevelLaws
