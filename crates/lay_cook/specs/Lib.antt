pub mod Cooking
pub mod Steps
