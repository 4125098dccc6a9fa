-- A net in bytes, in any form: every law between the two is said here, once.
pub mod Holds
pub mod Seen
pub mod Back
pub mod Changes
