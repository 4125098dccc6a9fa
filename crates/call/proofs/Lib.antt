pub mod Lists
pub mod Ends
pub mod Answers
