pub mod RoundLaws
pub mod WaitLaws
pub mod DriveLaws
pub mod OneLaws
pub mod TurnLaws
pub mod ShownLaws
pub mod StepCounts
