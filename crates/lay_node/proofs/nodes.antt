-- What the folds over nodes tell of each kind.
pub mod UseLaws
pub mod TypesLaws
pub mod PatternsLaws
