-- Laws of the six requests: what is refused at once; what the needed part of a table says of the whole, for the requests that change the
-- table and for those that read it; how long a table is.
pub mod Refused
pub mod Served
pub mod Changing
pub mod Reading
pub mod Size
