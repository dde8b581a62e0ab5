pub mod Anchored
pub mod Partnering
