pub mod Lists
pub mod Left
pub mod Lexed
pub mod Turns
pub mod Steps
pub mod Holding
pub mod InRow
