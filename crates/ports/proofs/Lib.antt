pub mod Plugging
pub mod Joining
pub mod Splitting
pub mod Wiring
pub mod Grouping
pub mod Stars
