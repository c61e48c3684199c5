pub mod Sums
pub mod Scopes
pub mod Places
pub mod Likeness
