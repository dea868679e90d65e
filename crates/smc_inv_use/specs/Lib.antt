pub mod Uses
pub mod Rest
pub mod Laws
