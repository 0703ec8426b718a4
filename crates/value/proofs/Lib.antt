pub mod Bools
pub mod SameValue
pub mod SameKey
pub mod Numbers
pub mod Truth
pub mod Missing
pub mod BitLaws
