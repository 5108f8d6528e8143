pub mod PatternRows
