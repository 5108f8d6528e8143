pub mod AtFront
pub mod AsKinds
