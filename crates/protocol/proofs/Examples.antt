-- The table of examples, and the nets that its rows start from.
pub mod Nets
pub mod Examples
