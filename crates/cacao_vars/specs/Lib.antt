pub mod Names
pub mod Kinds
pub mod Declarations
pub mod References
pub mod Scopes
