pub mod TraceSteps
