pub mod Refusals
pub mod Limits
pub mod Lengths
pub mod Fold
pub mod Columns
pub mod Answer
pub mod Words
