pub mod Boxes
pub mod Examples
pub mod Kinds
pub mod Places
pub mod Takings
