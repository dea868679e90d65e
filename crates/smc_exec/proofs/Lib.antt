pub mod PlacedLaws
pub mod FieldLaws
pub mod QueryLaws
pub mod PushedLaws
