pub mod Tells
pub mod Worked
pub mod Words
