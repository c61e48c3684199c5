pub mod Places
pub mod Asked
pub mod Starting
pub mod Slots
pub mod Gathering
