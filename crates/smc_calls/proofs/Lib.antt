pub mod CallsGoOn
pub mod OnSteps
pub mod Along
pub mod Undisturbed
pub mod WorkedTrace
