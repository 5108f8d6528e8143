pub mod Adding
pub mod RowLemmas
pub mod FormRows
pub mod PartLemmas
pub mod TypeLemmas
pub mod ClauseLemmas
