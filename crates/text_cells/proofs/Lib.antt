pub mod CellLaws
pub mod HexadecimalLaws
pub mod JoinLaws
pub mod NameLaws
pub mod RecordLaws
