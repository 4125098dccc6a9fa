-- Each public contract determines its result and every lent byte; each refusal is given in its stated case only, and changes nothing.
pub mod Told
pub mod Determined
pub mod Given
pub mod Unchanged
pub mod Exact
