pub mod Queued
pub mod Engines
pub mod Printing
pub mod Printers
pub mod Promises
