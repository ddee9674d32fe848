-- What giving a block back ensures.
pub mod Gave
