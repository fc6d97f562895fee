pub mod Audited
pub mod Command
pub mod Looking
pub mod Openings
