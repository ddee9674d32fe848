-- What each part of take ensures, from what its calls ensure: one law for each way out of a function.
pub mod Choices
pub mod Endings
pub mod Fresh
pub mod Runs
pub mod Served
