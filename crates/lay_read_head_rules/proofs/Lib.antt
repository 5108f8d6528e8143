pub mod UseSteps
pub mod Steps
