pub mod Headed
pub mod Reading
