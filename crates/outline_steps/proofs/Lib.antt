pub mod Quiet
pub mod Returns
pub mod Division
pub mod Calls
pub mod Forks
pub mod Messages
pub mod Sound
