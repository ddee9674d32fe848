-- How a set of live blocks is remembered in a table of cells.
pub mod Table
pub mod Walks
pub mod Parts
pub mod Start
pub mod Local
pub mod Sums
