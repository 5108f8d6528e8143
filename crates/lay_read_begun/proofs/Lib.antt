mod ByWord
pub mod ItemBodies
