-- Document 01's table, its runs and its limits, computed from the definitions.
pub mod Played
pub mod Section2
pub mod Section6
pub mod Section7
pub mod Limits
