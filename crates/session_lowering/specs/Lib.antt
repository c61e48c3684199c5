pub mod MadeNames
pub mod PutTerms
pub mod Choices
pub mod Sends
pub mod Helpers
pub mod FirstPass
pub mod Blocks
pub mod Lowered
