pub mod Places
pub mod Opens
pub mod Turns
pub mod UpTo
