pub mod BoundLaws
mod DigitLaws
mod DateLaws
mod PieceLaws
pub mod RowOrder
pub mod SortLaws
pub mod OperandLaws
pub mod TreeSizes
pub mod TextOrders
pub mod SideLaws
pub mod RowLaws
pub mod GroupLaws
pub mod Printable
pub mod SumLaws
pub mod EndLaws
pub mod EditedLaws
pub mod AnswerLaws
mod Exchanges
mod EndTurns
mod BagTurns
