pub mod KeptLemmas
pub mod ShellLemmas
pub mod WholeLemmas
pub mod loose_lemmas
