-- What only inner contracts need.
pub mod Visits
