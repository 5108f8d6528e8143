pub mod Ahead
pub mod Groups
pub mod Marks
pub mod Nested
pub mod Partial
pub mod Spans
