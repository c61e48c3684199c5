pub mod Halves
pub mod Arms
