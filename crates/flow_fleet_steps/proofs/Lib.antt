pub mod Back
pub mod Records
pub mod Numbers
pub mod Openings
pub mod Events
pub mod Whole
pub mod Closes
pub mod Spending
