pub mod Aside
pub mod Makes
