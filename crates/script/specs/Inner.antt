-- What only inner contracts speak of.
pub mod Ends
pub mod Counts
