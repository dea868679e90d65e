pub mod WordLaws
pub mod RecordLaws
pub mod TextLaws
pub mod FileLaws
pub mod RowEndings
