pub mod ReaderLaws
pub mod RowLaws
pub mod WholeText
pub mod NameLaws
pub mod TextLaws
pub mod ExamplesHold
