pub mod Columns
pub mod Text
pub mod Working
pub mod OneToOne
