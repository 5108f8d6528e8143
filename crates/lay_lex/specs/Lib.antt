pub mod Added
pub mod Gap
pub mod Lexer
pub mod Source
pub mod Tokens
pub mod Window
pub mod one_by_one
