pub mod Canon
pub mod Arranged
pub mod Keys
pub mod Laws
