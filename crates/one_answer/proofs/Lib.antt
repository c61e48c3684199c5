pub mod Paths
pub mod Answer
pub mod Unstuck
pub mod Endings
