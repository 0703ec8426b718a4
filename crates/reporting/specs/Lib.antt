pub mod Performed
pub mod Reports
pub mod Seen
pub mod Memory
pub mod ReportWords
