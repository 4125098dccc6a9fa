pub mod Sums
pub mod Counts
pub mod Chains
pub mod Floods
