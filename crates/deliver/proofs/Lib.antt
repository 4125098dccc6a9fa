pub mod Takes
pub mod Delivers
pub mod Adopts
