pub mod Services
pub mod Room
pub mod Condition
