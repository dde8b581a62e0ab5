pub mod Entering
pub mod Passing
pub mod Finishing
pub mod Growing
