pub mod Views
pub mod Speeches
pub mod Lines
pub mod Fleets
pub mod Shrinking
pub mod Events
pub mod Racks
