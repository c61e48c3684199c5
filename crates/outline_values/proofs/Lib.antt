pub mod Forms
pub mod Alike
pub mod Proper
pub mod Readings
pub mod Answers
pub mod Shapes
