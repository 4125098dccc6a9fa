pub mod Refusals
pub mod Ends
pub mod After
pub mod Hears
