pub mod BranchLemmas
pub mod ExprLemmas
pub mod JoinLemmas
pub mod LeafLemmas
pub mod NumberLemmas
pub mod PartLemmas
pub mod PostfixLemmas
pub mod StepLemmas
