-- The nodes of expressions, blocks and items, a family of nodes a file. Each file says which nodes
-- are well formed, which form a node has, and which tokens may not follow it.
pub mod Places
pub mod PlacesTable
pub mod CodeFacts
pub mod Bodies
pub mod Ends
pub mod Layers
pub mod Parts
pub mod Exprs
pub mod Conditions
pub mod Blocks
pub mod Item
pub mod Code
pub mod File
