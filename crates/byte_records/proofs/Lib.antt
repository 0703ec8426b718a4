pub mod ByteLaws
pub mod DescriptorLaws
