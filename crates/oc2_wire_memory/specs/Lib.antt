pub mod Failing
pub mod Pieces
pub mod MemoryLink
pub mod MemoryPeers
