pub mod Outcomes
pub mod Alternatives
