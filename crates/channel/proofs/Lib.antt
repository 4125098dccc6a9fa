pub mod Moved
pub mod Slots
pub mod Things
pub mod Messages
