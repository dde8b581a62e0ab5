pub mod Printing
pub mod Pages
pub mod Answering
pub mod Binder
pub mod Examples
