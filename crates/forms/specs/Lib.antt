-- A net in bytes, in any form: where its things stand, how each is written, read and tested.
pub mod Cells
pub mod Plans
pub mod Places
pub mod Grids
pub mod Tables
pub mod Forms
pub mod Folds
