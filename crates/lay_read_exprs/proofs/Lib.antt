pub mod Budgets
mod HeadSteps
pub mod Steps
