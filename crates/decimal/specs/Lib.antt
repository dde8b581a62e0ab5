pub mod BaseTen
pub mod RightAligned
