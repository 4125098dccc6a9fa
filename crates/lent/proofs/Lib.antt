-- The laws of lent records.
pub mod Records
pub mod Calls
