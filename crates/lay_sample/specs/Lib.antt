pub mod Sample
pub mod counting
