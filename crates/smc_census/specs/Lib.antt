pub mod Counts
pub mod Census
pub mod Laws
