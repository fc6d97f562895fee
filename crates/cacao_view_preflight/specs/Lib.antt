pub mod Refused
pub mod NameSets
pub mod Names
pub mod Settled
pub mod Constants
pub mod Laws
pub mod Warnings
pub mod Preflights
