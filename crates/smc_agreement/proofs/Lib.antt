pub mod Whole
pub mod CrossLaws
pub mod EachKind
pub mod WorldViews
pub mod FieldLaws
pub mod Begun
