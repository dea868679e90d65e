pub mod RunLaws
pub mod DropLaws
pub mod MayLaws
