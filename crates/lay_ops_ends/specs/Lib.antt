pub mod Bodies
pub mod BraceEnds
