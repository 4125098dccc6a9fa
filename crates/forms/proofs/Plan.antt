-- The plan at the front of a plan's or a net's bytes.
pub mod Shown
pub mod Holds
pub mod Seen
pub mod Back
