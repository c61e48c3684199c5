pub mod Counts
pub mod Narrow
