pub mod ActLemmas
pub mod Damages
pub mod KeepLemmas
pub mod OpenLemmas
pub mod Places
