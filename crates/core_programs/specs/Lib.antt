pub mod Bodies
pub mod Formed
pub mod Trees
pub mod Passes
pub mod Form
pub mod Following
pub mod Uses
