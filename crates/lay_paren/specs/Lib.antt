pub mod Made
pub mod Parts
pub mod Least
pub mod Nodes
pub mod InPlace
pub mod Edges
pub mod Erased
pub mod LeftOut
