pub mod Answering
pub mod Moves
