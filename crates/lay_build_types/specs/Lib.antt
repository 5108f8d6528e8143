pub mod Answers
pub mod Kinds
pub mod Nodes
pub mod Strings
