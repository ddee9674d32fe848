-- Document 01, section 1: how long a table is. Assumes nothing.
use Rattle.std.proofs.Common.{◌*◌, ◌+◌, ◌^◌, ◌≤◌, arith, ℕ}
use Rattle.table.specs.Table.{need}

-- a table, of cells of 8 bytes, takes at most 32 bytes for each page and 256 bytes more
pub table_fits : (m : ℕ) → 8 * need m ≤ 32 * 2 ^ m + 256
table_fits m = omega arith
