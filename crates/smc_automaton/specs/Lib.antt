pub mod Fits
pub mod FitsPhase
pub mod FitsWord
pub mod Effects
pub mod Counted
