-- What asking for the block of a byte ensures.
pub mod Told
