pub mod Lookups
pub mod Added
mod Tokens
pub mod Pieces
pub mod Lists
pub mod ReadyTerms
pub mod Entries
pub mod EachNext
pub mod Groups
pub mod Inside
pub mod Forms
pub mod Listed
