pub mod DoesLaws
pub mod Bridges
pub mod HeldLaws
pub mod Holdings
