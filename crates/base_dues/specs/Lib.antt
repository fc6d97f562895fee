pub mod Pairs
pub mod Least
pub mod Laws
pub mod Moments
