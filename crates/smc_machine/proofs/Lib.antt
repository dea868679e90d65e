mod AddedLaws
mod PlayLaws
mod RowLaws
mod RunningLaws
mod ScanLaws
