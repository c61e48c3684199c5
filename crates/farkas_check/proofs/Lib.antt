pub mod Products
pub mod FaultLists
pub mod Sums
pub mod Widths
pub mod Validity
pub mod Within
pub mod Forms
