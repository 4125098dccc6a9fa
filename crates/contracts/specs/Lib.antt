-- What it is for a contract to determine an end, and the refusal tables.
pub mod Ways
pub mod Tests
pub mod Tables
