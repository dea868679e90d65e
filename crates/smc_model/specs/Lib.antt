pub mod Examples
pub mod Order
pub mod Scans
pub mod Tree
pub mod World
