-- The steps of a script over bytes.
pub mod Inner
