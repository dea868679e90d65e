pub mod AskedLaws
pub mod PlaceLaws
pub mod RowLaws
pub mod SpanLaws
