pub mod Counting
pub mod Retiring
pub mod Leaving
pub mod Roles
pub mod Explaining
pub mod Columns
pub mod Examples
