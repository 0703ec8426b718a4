pub mod RoundTrip
pub mod CharacterLaws
pub mod SheetLength
