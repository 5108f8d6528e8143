-- The nodes of the syntax tree, one family per file. Each file says when a node is well formed,
-- which form it has, and what may not follow it.
pub mod Facts
pub mod SimplePath
pub mod Call
pub mod Attr
pub mod Types
pub mod Generics
pub mod Where
pub mod Patterns
pub mod Vis
pub mod Fields
pub mod Functions
pub mod Heads
pub mod Use
