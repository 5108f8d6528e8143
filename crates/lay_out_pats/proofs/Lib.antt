pub mod PathEnds
pub mod PathPoints
pub mod PatternLemmas
pub mod FieldLemmas
