-- The reach list in bytes.
pub mod Lists
pub mod Inner
