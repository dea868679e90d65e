pub mod WalkLaws
pub mod Adds
pub mod Fullness
pub mod Turns
mod Tries
mod WorkedTries
pub mod SameState
