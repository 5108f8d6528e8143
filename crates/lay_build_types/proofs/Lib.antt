pub mod AnswerLemmas
pub mod IdentifierLemmas
pub mod ListLemmas
pub mod NameLemmas
pub mod PathLemmas
pub mod PieceLemmas
pub mod StringLemmas
pub mod TypeLemmas
