pub mod Slots
pub mod Loose
