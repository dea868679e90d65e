pub mod Members
pub mod PresentLaws
pub mod CalmLaws
