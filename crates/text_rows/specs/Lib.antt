pub mod ReportRows
pub mod Written
