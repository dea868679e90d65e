pub mod Front
pub mod Marks
pub mod TokenList
pub mod Tokens
