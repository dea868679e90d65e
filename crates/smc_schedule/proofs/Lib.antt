pub mod CallLaws
pub mod GrammarLaws
mod MarkLaws
mod VerbLaws
