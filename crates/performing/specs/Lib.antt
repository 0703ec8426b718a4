pub mod Results
pub mod Creation
