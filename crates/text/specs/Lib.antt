-- Text in bytes.
pub mod Text
pub mod Inner
