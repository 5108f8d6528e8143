pub mod FieldRows
pub mod HeadRows
