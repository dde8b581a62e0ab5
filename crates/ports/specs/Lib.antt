pub mod Ports
pub mod Wiring
pub mod Stars
pub mod Splitting
