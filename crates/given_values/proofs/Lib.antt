pub mod Obliging
pub mod Entries
pub mod Giving
