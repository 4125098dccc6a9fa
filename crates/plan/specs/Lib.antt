-- A well-shaped plan, over its bytes.
pub mod Planned
