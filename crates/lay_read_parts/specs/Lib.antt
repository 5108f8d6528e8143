pub mod Answers
pub mod Leads
