pub mod BlockLemmas
pub mod DocLemmas
pub mod FileLemmas
pub mod ItemLemmas
pub mod PartLemmas
