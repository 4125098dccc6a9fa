pub mod Cases
pub mod Numbers
pub mod Parts
pub mod Stretches
pub mod Fills
pub mod Masks
pub mod Sums
pub mod Below
