pub mod Digits
pub mod Printing
pub mod Examples
