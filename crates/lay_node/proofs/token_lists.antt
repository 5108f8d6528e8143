-- Token lists: what texts lex to, balance, groups, runs.
pub mod Balance
pub mod FromText
pub mod Decided
pub mod Grouped
pub mod Commas
pub mod Runs
pub mod Spelling
