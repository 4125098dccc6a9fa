-- A channel's bytes.
pub mod Slots
pub mod Messages
pub mod Inner
