pub mod Examples
pub mod FirstFaults
pub mod Bodies
pub mod OneForm
pub mod Sums
pub mod Values
