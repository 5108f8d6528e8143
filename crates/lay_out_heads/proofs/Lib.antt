pub mod Steady
pub mod Rows
pub mod FieldLemmas
pub mod FunctionLemmas
pub mod HeadLemmas
pub mod ItemLemmas
pub mod UseLemmas
