pub mod Reading
pub mod Chains
pub mod Calls
pub mod Parts
pub mod Texts
pub mod Places
pub mod Once
