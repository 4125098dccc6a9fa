-- What a loss and a delivery may change of the bytes of a net.
pub mod Removal
pub mod Changes
