pub mod Characters
pub mod CleanPieces
pub mod DocTexts
pub mod Laid
pub mod LaidTokens
pub mod PointTexts
