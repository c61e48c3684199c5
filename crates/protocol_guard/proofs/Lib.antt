pub mod Codes
pub mod Ways
pub mod Searching
pub mod Repeats
pub mod Tables
pub mod Falling
