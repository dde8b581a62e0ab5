pub mod Answering
pub mod Condition
