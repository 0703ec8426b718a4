pub mod Prevention
