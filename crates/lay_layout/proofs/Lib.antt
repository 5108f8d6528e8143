pub mod AnywayLaws
pub mod Render
pub mod Whole
