pub mod Beginnings
pub mod Replaying
pub mod RunFiles
pub mod RunLines
