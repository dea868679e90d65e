pub mod Memories
pub mod LookLaws
pub mod ObjectLaws
pub mod MoveLaws
pub mod StepLaws
pub mod ReachLaws
