pub mod FromLaws
