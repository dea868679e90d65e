pub mod Begun
pub mod Turns
pub mod Plays
pub mod Texts
pub mod Ending
