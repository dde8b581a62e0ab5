pub mod Reserving
pub mod Listing
pub mod Answering
pub mod Condition
pub mod Examples
