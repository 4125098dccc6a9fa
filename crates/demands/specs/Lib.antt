-- The bytes that a bench can come to, and what they are.
pub mod Reachable
pub mod Corresponds
