pub mod Numbering
pub mod Rooted
pub mod Drafts
pub mod Pure
