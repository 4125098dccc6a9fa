-- What only the actions' own contracts speak of.
pub mod Ends
