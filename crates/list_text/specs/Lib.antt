pub mod Text
pub mod OneToOne
