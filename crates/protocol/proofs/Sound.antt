-- Every step keeps a net sound. Core is what is hard in it, kept by the changes of Moves and Posts; Within carries it to other versions;
-- Invariant is soundness in the form that Actions keeps; Room is what a sound net has for messages.
pub mod Leads
pub mod Core
pub mod Moves
pub mod Posts
pub mod Within
pub mod Invariant
pub mod Actions
pub mod Room
