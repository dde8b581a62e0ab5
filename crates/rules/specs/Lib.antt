pub mod Running
pub mod Pairs
pub mod Others
pub mod Judgements
pub mod Endings
pub mod Plans
