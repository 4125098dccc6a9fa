pub mod Carried
pub mod Theorems
