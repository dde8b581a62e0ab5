pub mod Same
pub mod Costs
pub mod Condition
