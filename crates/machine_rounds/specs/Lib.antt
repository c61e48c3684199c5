pub mod Ready
pub mod Sets
pub mod Local
pub mod Showing
