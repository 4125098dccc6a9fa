-- A call in bytes.
pub mod Answers
