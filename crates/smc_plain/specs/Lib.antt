pub mod Given
pub mod Objects
pub mod Tables
pub mod Rows
pub mod Plain
pub mod Laws
