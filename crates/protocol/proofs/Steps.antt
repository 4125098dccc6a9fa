-- What holds of every step: by its rule, of parents, of what it leaves alone, of the reply that it hears, and of the messages that it
-- counts.
pub mod Steps
pub mod Kept
pub mod Aparts
pub mod Hears
pub mod Counts
