pub mod Worlds
pub mod Turns
pub mod Steps
pub mod Spent
pub mod Errors
pub mod Closes
pub mod Openings
pub mod Laws
