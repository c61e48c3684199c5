pub mod Ends
pub mod Values
pub mod Uses
pub mod Messages
pub mod Acts
pub mod Good
