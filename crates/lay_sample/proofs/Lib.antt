mod Lines
mod More
pub mod counting_lemmas
