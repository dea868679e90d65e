pub mod Happened
