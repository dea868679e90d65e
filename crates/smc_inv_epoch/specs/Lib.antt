pub mod Epochs
pub mod Rounds
