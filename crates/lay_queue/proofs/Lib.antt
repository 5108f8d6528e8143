mod Advancing
mod Fitting
mod WriteBack
mod Feeding
mod Closing
mod Splitting
pub mod Queueing
