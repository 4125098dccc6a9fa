pub mod Bounded
pub mod Facts
pub mod Marks
