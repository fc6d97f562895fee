pub mod Asks
pub mod Ends
pub mod Sums
