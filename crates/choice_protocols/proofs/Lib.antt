pub mod FirstNamed
pub mod TurnsFrom
