pub mod Dir
pub mod Entry
pub mod Number
pub mod RoundWord
