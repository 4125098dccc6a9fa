-- What only functions that require something of their callers speak of.
pub mod Within
pub mod Added
