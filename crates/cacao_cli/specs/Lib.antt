pub mod Calls
pub mod WithPeers
pub mod WithFleets
pub mod FleetUsage
