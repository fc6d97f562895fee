pub mod Layout
pub mod Ranges
pub mod Fields
pub mod Reading
pub mod Laws
pub mod Lists
