pub mod Meanings
pub mod Crew
