pub mod DecidedHolds
