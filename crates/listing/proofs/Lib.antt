-- The laws of the listing.
pub mod Dashes
pub mod Texts
pub mod Benches
pub mod Whole
