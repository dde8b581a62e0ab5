pub mod Hexadecimal
pub mod Sign
