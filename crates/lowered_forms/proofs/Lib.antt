pub mod Cores
pub mod Passed
