pub mod Departures
pub mod Columns
pub mod Explained
