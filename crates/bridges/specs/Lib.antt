pub mod Bridge
pub mod LowPoints
