-- What only inner contracts need.
pub mod Filling
