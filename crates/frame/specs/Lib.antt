pub mod Table
pub mod Line
pub mod Kinds
pub mod Frames
