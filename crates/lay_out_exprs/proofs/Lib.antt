pub mod Turns
pub mod Feeds
pub mod ExprLemmas
pub mod StepLemmas
pub mod StructLemmas
pub mod PointLemmas
pub mod BlockLemmas
pub mod PartLemmas
