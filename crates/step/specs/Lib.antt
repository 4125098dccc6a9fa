-- One step over bytes.
pub mod Steps
pub mod Inner
