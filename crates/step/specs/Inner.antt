-- What only an inner contract speaks of.
pub mod Counted
