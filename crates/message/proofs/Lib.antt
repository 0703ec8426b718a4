pub mod Texts
pub mod WrittenLaws
