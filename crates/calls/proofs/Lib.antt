pub mod Steps
pub mod Hops
pub mod EnterLaws
