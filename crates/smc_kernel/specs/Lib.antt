pub mod Plain
pub mod Batches
pub mod Taken
pub mod Columns
