pub mod Modules
pub mod Moved
pub mod Reading
pub mod Standing
pub mod Tokens
