pub mod ListLaws
pub mod FitLaws
pub mod OwnLaws
pub mod MarkLaws
