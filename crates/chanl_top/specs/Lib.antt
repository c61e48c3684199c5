pub mod Verdict
pub mod Decided
pub mod Readings
