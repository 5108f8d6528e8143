pub mod KeptLemmas
pub mod ListLemmas
pub mod PrintingLemmas
pub mod alone_lemmas
