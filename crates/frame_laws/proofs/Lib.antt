pub mod Tests
pub mod Variables
pub mod Scoped
pub mod Nodes
pub mod Frames
pub mod Steps
pub mod Starts
pub mod Runs
