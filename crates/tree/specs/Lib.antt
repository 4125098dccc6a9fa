-- The tree of one group: agreed links, who is on the tree, the reach list, and how a call spreads.
pub mod Tree
pub mod Reach
pub mod Flood
