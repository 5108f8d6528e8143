pub mod Alone
pub mod Settled
pub mod StmtAlone
pub mod Fronts
pub mod ArmShapes
pub mod ArmBlocks
pub mod ArmBegun
pub mod ArmFronts
