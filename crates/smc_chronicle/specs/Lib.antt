pub mod Places
pub mod Chronicle
