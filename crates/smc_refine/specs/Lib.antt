pub mod Alone
pub mod Orders
pub mod Worked
