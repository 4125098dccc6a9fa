-- A net of version 2 in bytes.
pub mod Records
pub mod Shape
