-- Samples that hold by computation, a family a file.
pub mod ItemTrees
pub mod Item
pub mod Exprs
pub mod ExprHeads
pub mod Blocks
pub mod Closures
pub mod BlocksRead
pub mod Conditions
pub mod ConditionsRead
pub mod Heads
pub mod HeadsRead
