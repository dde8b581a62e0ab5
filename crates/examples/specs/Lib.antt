pub mod District
