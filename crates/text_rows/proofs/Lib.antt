pub mod DigitLaws
pub mod RowLaws
