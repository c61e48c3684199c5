pub mod Ends
pub mod Arms
pub mod Alternatives
