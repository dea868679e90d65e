pub mod ColumnLaws
pub mod NameLaws
pub mod ObjectLaws
pub mod LoadLaws
pub mod EditLaws
pub mod QueryLaws
pub mod FoldLaws
