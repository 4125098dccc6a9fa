pub mod Ends
pub mod InRange
pub mod Posts
