pub mod Passed
pub mod Laying
pub mod Expanding
pub mod Reading
pub mod Meaning
pub mod OneToOne
pub mod Examples
