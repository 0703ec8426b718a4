pub mod CopyLaws
pub mod TextLaws
pub mod TableLaws
pub mod EntryLaws
pub mod IndexLaws
