pub mod SheetLaws
pub mod EndLaws
pub mod ContractLaws
pub mod ReportLaws
pub mod SeenLaws
