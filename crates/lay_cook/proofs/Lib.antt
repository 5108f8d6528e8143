pub mod CookLemmas
pub mod DigitLemmas
pub mod EndLemmas
pub mod PieceLemmas
pub mod RawLemmas
pub mod StepLemmas
