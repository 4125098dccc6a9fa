-- What only inner contracts need.
pub mod Nets
pub mod Fields
pub mod Seen
