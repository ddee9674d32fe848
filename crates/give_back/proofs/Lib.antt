-- What giving back at an offset comes to, for each way out of its functions.
pub mod Gives
pub mod Runs
pub mod Slots
pub mod Spots
