pub mod Texts
pub mod Lengths
pub mod Columns
pub mod Reading
pub mod Parsing
pub mod Given
pub mod OneToOne
pub mod Examples
