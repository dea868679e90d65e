pub mod Verbs
pub mod Names
pub mod Calls
pub mod Lines
pub mod Header
pub mod Answers
pub mod Known
pub mod Grammar
