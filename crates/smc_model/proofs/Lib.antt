pub mod ExampleLaws
pub mod HistoryLaws
pub mod LatestLaws
pub mod MapLaws
pub mod OrderLaws
pub mod TreeLaws
pub mod WorldLaws
