pub mod Forms
pub mod GenericLemmas
pub mod HeadLemmas
pub mod Loops
pub mod PathLemmas
pub mod PatternLemmas
pub mod TypeLemmas
pub mod UseLemmas
