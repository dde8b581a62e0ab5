pub mod Text
pub mod EachLine
