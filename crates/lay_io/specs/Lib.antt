pub mod Faults
pub mod Told
pub mod Calls
pub mod Stored
pub mod Kept
pub mod Devices
pub mod Lending
pub mod Gathered
