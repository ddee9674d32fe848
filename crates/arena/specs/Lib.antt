-- What the six requests promise, and an answer as numbers.
pub mod Promises
pub mod Admits
pub mod Numbers
