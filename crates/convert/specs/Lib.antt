-- A net carried from one form to another.
pub mod Converts
pub mod Inner
