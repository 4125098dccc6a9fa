-- What reading and changing a net's bytes asks of them.
pub mod Inner
