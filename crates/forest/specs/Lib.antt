pub mod Forest
pub mod Search
