pub mod Lexed
pub mod Neighbours
pub mod Rows
pub mod Table
pub mod TokenLists
pub mod Within
