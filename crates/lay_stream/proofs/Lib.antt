pub mod Calls
pub mod ListedLemmas
pub mod Paging
