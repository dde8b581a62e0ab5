pub mod Trios
pub mod Choices
pub mod Judging
pub mod Ends
pub mod Steps
pub mod Planning
