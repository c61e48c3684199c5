pub mod Meaning
pub mod Found
pub mod Steps
pub mod Seats
pub mod Hands
pub mod Calls
