-- Records that the caller lends.
pub mod Lists
pub mod Inner
