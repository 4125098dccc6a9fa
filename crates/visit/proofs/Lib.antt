pub mod Climbs
pub mod Visits
