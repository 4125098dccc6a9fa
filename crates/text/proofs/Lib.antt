-- The laws of text.
pub mod Puts
pub mod Adds
pub mod Digits
pub mod Patterns
