-- The ground: big-endian numbers, parts and stretches of a list of bytes, sets of small numbers as masks, sums, and tests below a bound. Each for any width.
pub mod Numbers
pub mod Parts
pub mod Stretches
pub mod Masks
pub mod Sums
pub mod Below
