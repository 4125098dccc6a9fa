-- Every step keeps a net well shaped: where one thing of it changes, what the actions put there, and each action.
pub mod Changes
pub mod Entries
pub mod Actions
