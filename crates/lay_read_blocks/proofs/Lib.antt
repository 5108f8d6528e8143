pub mod Chains
pub mod Fits
pub mod Second
pub mod Undressed
