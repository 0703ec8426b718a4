pub mod EntriesHold
pub mod ExportsHold
pub mod TextsHold
