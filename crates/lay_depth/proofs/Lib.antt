pub mod BlockLemmas
pub mod ExprLemmas
pub mod ItemLemmas
pub mod nodes_lemmas
