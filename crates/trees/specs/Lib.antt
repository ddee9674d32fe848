-- The tree of a set of live blocks.
pub mod Tree
pub mod Change
pub mod Leftmost
pub mod Sums
