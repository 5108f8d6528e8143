pub mod Left
pub mod Steps
mod Passing
