pub mod Theorems
pub mod Forms
