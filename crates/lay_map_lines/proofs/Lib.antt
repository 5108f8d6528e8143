pub mod LineLemmas
pub mod MapLemmas
