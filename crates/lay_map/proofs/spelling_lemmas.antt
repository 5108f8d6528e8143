pub mod ChoiceLemmas
pub mod OperatorLemmas
pub mod RowLemmas
pub mod Samples
pub mod UnitLemmas
