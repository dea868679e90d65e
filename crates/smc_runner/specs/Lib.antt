pub mod Runs
pub mod Drops
