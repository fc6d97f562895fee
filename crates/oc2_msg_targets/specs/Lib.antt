pub mod Parts
pub mod Words
pub mod Features
pub mod Targets
pub mod Ranges
pub mod Least
pub mod Puts
