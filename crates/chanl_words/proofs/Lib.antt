pub mod Numbers
pub mod OneCommand
