pub mod Anchor
pub mod Partnered
