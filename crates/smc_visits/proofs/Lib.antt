pub mod RowLaws
pub mod VisitLaws
pub mod EditLaws
pub mod StillLaws
pub mod FitLaws
pub mod FrontLaws
pub mod ReadFronts
pub mod EditFronts
