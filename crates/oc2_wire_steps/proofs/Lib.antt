pub mod Records
pub mod Sites
pub mod Openings
pub mod Kept
