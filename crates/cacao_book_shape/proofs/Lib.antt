pub mod ListLemmas
pub mod ArgumentLemmas
pub mod IdLemmas
pub mod ShapeLemmas
pub mod Examples
