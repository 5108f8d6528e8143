-- The parser as functions of the next tokens, a family of nodes a file. A function gives what is
-- read and the tokens that are left, or nothing. The contracts of the readers use these functions,
-- and no promise to callers does. It is proved that what they read is what stands at the beginning
-- of the tokens, and all of it.
pub mod Within
pub mod ItemLeads
pub mod Conditions
pub mod Blocks
pub mod Exprs
pub mod Item
pub mod Code
pub mod File
