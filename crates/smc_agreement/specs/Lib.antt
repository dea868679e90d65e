pub mod Parts
pub mod Entries
pub mod Agreement
pub mod Records
pub mod Kept
