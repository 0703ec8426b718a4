pub mod ReadLaws
pub mod ListLaws
pub mod NameLaws
