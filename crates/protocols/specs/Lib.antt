pub mod Duals
pub mod Heads
pub mod Unfolding
pub mod FaultsOf
pub mod Settings
pub mod HeadsOf
pub mod Answers
pub mod Places
