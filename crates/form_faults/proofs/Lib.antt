pub mod Firsts
pub mod Places
pub mod Binders
pub mod Shapes
pub mod First
