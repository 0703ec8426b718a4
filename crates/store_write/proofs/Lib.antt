pub mod WriteLaws
pub mod CommittedLaws
