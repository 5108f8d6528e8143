pub mod Parts
pub mod Neighbours
pub mod Separations
pub mod Fed
