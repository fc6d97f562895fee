pub mod ActLists
pub mod ActuatorView
pub mod Adding
pub mod Damage
pub mod History
pub mod Laws
