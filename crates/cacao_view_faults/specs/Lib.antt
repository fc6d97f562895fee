pub mod Closing
pub mod Kinds
pub mod Nexts
pub mod PlaceBy
pub mod Places
pub mod Stands
pub mod StandingBy
pub mod Tokens
