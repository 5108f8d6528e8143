pub mod Edges
pub mod Ends
pub mod Leads
pub mod Numbers
pub mod RootFacts
