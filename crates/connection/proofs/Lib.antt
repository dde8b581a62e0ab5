pub mod Tallies
pub mod Reaching
pub mod Bits
pub mod Sets
pub mod Searching
pub mod Chaining
pub mod Tabling
