pub mod ValidateLaws
pub mod ValueLaws
pub mod FirstTestTold
pub mod FirstTestHolds
pub mod UnnumberedLaws
