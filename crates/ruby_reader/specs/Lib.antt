pub mod Outcomes
pub mod Parsing
