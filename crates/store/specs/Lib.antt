pub mod Store
pub mod Release
pub mod OwnKeys
pub mod Words
