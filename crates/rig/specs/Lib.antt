-- The C face: what its numbers hold.
pub mod Face
