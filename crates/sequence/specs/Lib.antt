-- Any number of requests, as numbers.
pub mod Numbers
pub mod Serving
