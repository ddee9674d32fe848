-- Laws of sequences of requests: the numbers, one request, any number of them, two units, a unit's whole life.
pub mod Numbers
pub mod Known
pub mod Storing
pub mod One
pub mod Serving
pub mod Going
pub mod Alike
pub mod Life
