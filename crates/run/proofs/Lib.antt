pub mod Tallies
pub mod Lengths
pub mod Theorems
