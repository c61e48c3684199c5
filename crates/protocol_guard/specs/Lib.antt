pub mod Guards
pub mod Searches
pub mod Places
pub mod Cycles
pub mod Faults
pub mod Ranks
