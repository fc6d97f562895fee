mod Lists
mod Fits
mod Starts
mod Kept
mod Agreed
mod EngineRecord
mod EngineCalls
mod FilterCalls
mod Begins
mod Blank
mod OneSite
pub mod Changes
pub mod Taken
pub mod Since
pub mod FilterSince
