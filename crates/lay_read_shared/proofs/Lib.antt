pub mod BlocksLeft
pub mod ExprsLeft
pub mod HeadPartsLeft
pub mod HeadsLeft
pub mod ItemsLeft
pub mod Left
pub mod UseLeft
pub mod alone_lemmas
