pub mod Ready
pub mod Sorted
pub mod Round
pub mod Local
pub mod Rounded
pub mod Showing
pub mod Forking
