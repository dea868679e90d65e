pub mod EnterLaws
pub mod StartLaws
pub mod KeptLaws
pub mod BoundLaws
pub mod ScanLists
pub mod HomeLaws
pub mod ScanLaws
pub mod WholeLaws
