pub mod Class
pub mod Front
pub mod Place
pub mod Spelled
pub mod Faults
pub mod Lexed
pub mod Keeps
