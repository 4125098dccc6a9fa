-- Where each thing stands among the bytes of a net, and tests over stretches of bytes.
pub mod Layout
pub mod Marks
pub mod Bounded
