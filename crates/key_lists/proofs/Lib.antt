pub mod KeyWordLaws
pub mod CheckLaws
pub mod TurnLaws
pub mod KeyLaws
