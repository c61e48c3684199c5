pub mod Formed
pub mod Proper
