pub mod Frames
pub mod Text
pub mod Columns
pub mod OneToOne
