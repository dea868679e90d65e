pub mod PlaceLaws
pub mod ReadBack
pub mod MirrorLaws
pub mod CarryLaws
pub mod OfferLaws
pub mod FirstState
pub mod HistoryLaws
