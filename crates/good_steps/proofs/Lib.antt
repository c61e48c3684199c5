pub mod Heads
pub mod SameEnds
pub mod Keeping
pub mod Ends
pub mod Forks
pub mod Kept
pub mod Starts
