pub mod LineLaws
pub mod PageLaws
