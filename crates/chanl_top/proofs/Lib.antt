pub mod Deciding
pub mod OneVerdict
