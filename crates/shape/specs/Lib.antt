-- A well-shaped net, over its bytes.
pub mod Shape
