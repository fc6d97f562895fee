pub mod Laws
pub mod Logs
pub mod Objects
pub mod ReadBack
pub mod Senders
pub mod Sources
pub mod Telling
pub mod Texts
