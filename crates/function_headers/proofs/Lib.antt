pub mod Formed
pub mod FirstNamed
