pub mod Conjunctions
pub mod FirstNamed
