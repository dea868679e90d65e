pub mod Constants
pub mod Words
pub mod Tests
pub mod Filters
