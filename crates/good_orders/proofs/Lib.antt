pub mod Writes
pub mod Changing
pub mod Commuting
