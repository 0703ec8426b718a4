pub mod SequenceSteps
pub mod KeySteps
pub mod KeyLaws
