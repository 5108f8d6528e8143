-- Samples that hold by computation, a family a file.
pub mod Trees
pub mod Attr
pub mod Use
pub mod Tokens
pub mod Types
pub mod Patterns
