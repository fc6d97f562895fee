pub mod Openings
pub mod Records
pub mod Calls
pub mod Steps
pub mod Sessions
pub mod Beside
