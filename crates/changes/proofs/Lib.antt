pub mod Removal
pub mod Deliveries
pub mod Changes
