pub mod Keeping
pub mod Places
pub mod Readings
pub mod streamed
pub mod windows
