pub mod Scan
pub mod Notes
pub mod Closed
pub mod Entries
pub mod Queues
