-- A run over bytes.
pub mod Tallies
pub mod Runs
