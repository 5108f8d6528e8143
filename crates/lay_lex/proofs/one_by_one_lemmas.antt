pub mod PartLemmas
pub mod TokenLemmas
