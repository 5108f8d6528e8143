pub mod Comparing
pub mod Inputs
pub mod Messages
pub mod Outcome
pub mod Stops
pub mod Summary
