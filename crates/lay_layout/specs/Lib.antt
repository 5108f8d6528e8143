pub mod Anyway
pub mod Document
pub mod Indents
pub mod Machine
pub mod Margins
