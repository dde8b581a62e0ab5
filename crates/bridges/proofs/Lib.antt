pub mod Counting
pub mod Falling
pub mod Noting
pub mod Raising
pub mod Cutting
pub mod Finding
pub mod Claiming
