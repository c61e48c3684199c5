pub mod Entries
pub mod Forks
