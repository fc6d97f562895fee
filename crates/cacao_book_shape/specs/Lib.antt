pub mod Least
pub mod Members
pub mod Orders
pub mod Shape
pub mod Refusals
