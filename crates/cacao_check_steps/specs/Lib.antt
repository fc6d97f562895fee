pub mod Links
pub mod Uses
pub mod Calls
pub mod Parts
pub mod Pairing
pub mod UsedNames
