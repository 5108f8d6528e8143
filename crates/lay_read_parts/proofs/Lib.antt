pub mod Left
pub mod Turning
pub mod Steps
pub mod Free
pub mod AtFront
