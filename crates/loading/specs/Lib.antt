pub mod Known
pub mod Loading
pub mod Pass
pub mod OnePass
pub mod ListLoading
