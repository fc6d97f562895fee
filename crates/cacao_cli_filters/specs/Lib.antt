pub mod Lines
pub mod PacketFiles
