-- A fresh net from a plan.
pub mod Fresh
pub mod Inner
