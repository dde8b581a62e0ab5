pub mod Answering
pub mod Examples
