pub mod Added
pub mod Chosen
pub mod Faults
pub mod Kept
pub mod Plays
pub mod Rows
pub mod Running
