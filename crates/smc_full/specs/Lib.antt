pub mod Full
pub mod Laws
pub mod Worked
