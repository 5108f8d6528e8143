pub mod Delimiters
pub mod Machine
pub mod Steps
pub mod Places
pub mod OperatorLemmas
pub mod TokenTrees
