pub mod Layout
pub mod Faults
pub mod Places
pub mod Span
