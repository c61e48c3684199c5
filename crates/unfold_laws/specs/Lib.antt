pub mod References
pub mod Forks
pub mod Certs
pub mod Answers
pub mod Laws
