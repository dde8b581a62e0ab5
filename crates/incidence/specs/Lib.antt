pub mod Degrees
pub mod Partners
