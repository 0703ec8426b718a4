pub mod RefusalLaws
pub mod ValueLaws
pub mod StepRefusalLaws
pub mod SheetLaws
pub mod TestLaws
pub mod PassedLaws
