pub mod Places
pub mod Roots
pub mod Grown
pub mod Drafted
pub mod Said
pub mod Forms
pub mod Taken
