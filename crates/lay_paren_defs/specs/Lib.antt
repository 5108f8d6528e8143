pub mod Constant
pub mod Traversal
pub mod Enclosed
pub mod loose
