-- Finding a group in bytes.
pub mod Answers
