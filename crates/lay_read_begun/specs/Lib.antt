pub mod Begun
pub mod Leads
