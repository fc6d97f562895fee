pub mod Uuids
pub mod Ids
pub mod Calendar
pub mod Stamps
