pub mod Trace
pub mod TraceLaws
pub mod Named
