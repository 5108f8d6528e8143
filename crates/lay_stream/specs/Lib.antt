pub mod Fed
pub mod Listed
pub mod Pages
