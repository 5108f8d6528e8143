-- The parser, as functions of the tokens ahead, one family per file. Each returns what is parsed
-- and the tokens after it, or none. The contracts of the readers use these functions. No promise
-- rests on them alone: it is proved that what is parsed is what stands at the start of the tokens,
-- and all of it.
pub mod Loops
pub mod Exact
pub mod Words
pub mod SimplePath
pub mod Tokens
pub mod Call
pub mod Attr
pub mod Types
pub mod Generics
pub mod Where
pub mod Patterns
pub mod Vis
pub mod Fields
pub mod Functions
pub mod Heads
pub mod Use
