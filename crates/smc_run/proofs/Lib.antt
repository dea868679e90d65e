pub mod Endings
pub mod FirstColumn
pub mod RowWorld
pub mod ScriptLaws
pub mod TableNames
pub mod TableRows
