pub mod Fronts
pub mod ArmFronts
