pub mod PortLine
pub mod Socket
