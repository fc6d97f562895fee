pub mod Dues
pub mod Fleets
pub mod Journals
pub mod Leads
pub mod Searches
pub mod Used
