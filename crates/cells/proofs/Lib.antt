-- The laws of cells.
pub mod Cell
pub mod FirstOne
