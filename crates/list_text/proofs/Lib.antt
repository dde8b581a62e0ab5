pub mod Taken
pub mod Reading
pub mod Listed
pub mod OneToOne
pub mod Texts
