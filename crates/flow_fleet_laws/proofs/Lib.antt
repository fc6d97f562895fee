pub mod Seen
pub mod Shrinking
mod Numbers
mod Lines
mod Places
mod Choices
mod Others
pub mod Events
pub mod Journals
mod Commands
pub mod Bystanders
pub mod Racks
