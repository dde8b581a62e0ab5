pub mod Services
pub mod Condition
