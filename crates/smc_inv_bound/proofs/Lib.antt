pub mod CallLaws
pub mod StepLaws
