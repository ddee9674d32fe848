-- Nodes with a tag, a store with the climb after it, and what the way up says of the live blocks.
pub mod Tags
pub mod Puts
pub mod WayUp
