pub mod borders
pub mod file
pub mod forms
pub mod join
pub mod texts
pub mod tokens
