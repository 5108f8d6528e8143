pub mod KeepingLemmas
pub mod ReadingLemmas
pub mod WritingLemmas
pub mod streamed_lemmas
pub mod windows_lemmas
