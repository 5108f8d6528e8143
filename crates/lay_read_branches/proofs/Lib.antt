pub mod Chains
pub mod ConditionSteps
