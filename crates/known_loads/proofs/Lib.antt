pub mod Ends
pub mod Made
pub mod Acts
pub mod Held
pub mod Coming
pub mod Views
