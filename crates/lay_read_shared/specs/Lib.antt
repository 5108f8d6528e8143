pub mod Code
pub mod Loops
pub mod alone
