pub mod Laid
pub mod Views
