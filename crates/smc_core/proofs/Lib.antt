mod StepLaws
mod WorkedSchedules
