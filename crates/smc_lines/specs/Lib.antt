pub mod Lines
pub mod Reading
pub mod Rest
pub mod Ahead
pub mod Words
pub mod Numbers
