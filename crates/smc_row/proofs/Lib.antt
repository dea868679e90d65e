pub mod BackLaws
pub mod OpenLaws
