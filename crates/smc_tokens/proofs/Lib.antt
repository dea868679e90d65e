pub mod AsciiLaws
mod DateLaws
mod DigitLaws
mod FallLaws
pub mod Finding
mod FractionLaws
mod KindLaws
mod ListLaws
mod NameLaws
mod NumberLaws
mod QuoteLaws
mod RunLaws
mod SignLaws
mod TokenLaws
