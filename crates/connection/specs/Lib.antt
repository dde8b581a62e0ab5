pub mod Connection
pub mod Walk
pub mod Searchable
pub mod Words
pub mod Columns
pub mod Search
pub mod Incidence
