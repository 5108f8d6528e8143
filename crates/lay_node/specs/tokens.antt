-- Token lists: what stands between neighbours, the form of a list, and which lists some text lexes
-- to (Rust Reference, "Macros": token trees; the layout is this format's).
pub mod Listing
pub mod Pairs
pub mod Lists
pub mod Lexed
pub mod Texts
