pub mod Plain
pub mod Lines
pub mod Naming
pub mod Tells
pub mod Reasons
pub mod Explains
