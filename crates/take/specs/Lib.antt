-- What taking a block ensures, and the slot that a page offers.
pub mod Took
pub mod Offered
