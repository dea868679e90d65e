pub mod EpochSteps
pub mod EpochsCounted
