pub mod Plans
pub mod Deletes
pub mod Updates
pub mod Pushed
pub mod Gathered
pub mod Queries
