-- What only the inner contracts of a delivery speak of.
pub mod MayDeliver
