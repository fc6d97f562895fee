pub mod SetupGivens
pub mod SetupLaws
pub mod SetupReading
pub mod Setups
