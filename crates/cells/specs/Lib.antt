-- How a cell of the table is packed, and what its tag says.
pub mod Cell
pub mod Tags
