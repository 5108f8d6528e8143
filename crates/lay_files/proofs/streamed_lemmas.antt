pub mod Rows
pub mod ModuleRows
pub mod Growing
pub mod ReadParts
