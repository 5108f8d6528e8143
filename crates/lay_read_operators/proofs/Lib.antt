pub mod Climbing
pub mod Steps
pub mod Digits
