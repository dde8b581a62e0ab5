pub mod Verdicts
pub mod Plans
pub mod Services
pub mod Condition
