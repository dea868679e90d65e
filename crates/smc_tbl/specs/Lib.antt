pub mod Alone
pub mod Column
pub mod Fields
pub mod Printed
pub mod Reader
pub mod Reading
pub mod TableText
pub mod Words
