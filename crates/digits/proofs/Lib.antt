pub mod Values
pub mod Spelling
pub mod Signs
