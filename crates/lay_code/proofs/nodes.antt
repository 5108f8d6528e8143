-- What the folds over nodes tell of each kind.
pub mod Layers
pub mod ItemLaws
pub mod ExprsLaws
pub mod PlacesTable
pub mod BodyLaws
pub mod BlocksLaws
