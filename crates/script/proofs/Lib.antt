pub mod Ends
pub mod CountsUpTo
pub mod Turns
