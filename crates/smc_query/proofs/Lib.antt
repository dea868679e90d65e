mod MarkLaws
mod OutcomeLaws
mod PlanTexts
mod Deeper
pub mod StopLaws
mod GrammarLaws
mod ExampleLaws
