pub mod AnywaySamples
pub mod BracedEnds
pub mod FormLaws
pub mod Samples
pub mod StreamLaws
