pub mod Asked
pub mod Options
pub mod Requests
pub mod Rules
pub mod Texts
pub mod Topics
pub mod Wants
