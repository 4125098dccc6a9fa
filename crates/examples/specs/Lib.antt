-- The examples in bytes.
pub mod Tells
pub mod Worked
pub mod Words
