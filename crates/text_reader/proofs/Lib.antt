pub mod ReadLaws
pub mod StateLaws
