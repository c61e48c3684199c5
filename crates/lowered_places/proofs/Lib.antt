pub mod BlockSpans
pub mod ChoiceSpans
pub mod HelperSpans
pub mod Kept
pub mod PathSpans
pub mod PutSpans
