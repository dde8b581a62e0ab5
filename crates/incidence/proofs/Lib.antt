pub mod Tally
pub mod Picked
