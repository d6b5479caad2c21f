-- The row pair between which a height lies.
use Rattle.std.specs.Prelude.{◌≡◌, ℕ, ◌+◌, ◌<◌, ◌≤◌, List, length, slice_index_or}
use Rattle.capacity.specs.declared.row.Row.{Row}
use Rattle.capacity.specs.Rows.{rows_reach, line, rows_volume}
use Rattle.capacity.specs.RowLaws.{Rises}

-- the row at place i
abbrev pub row_at : List Row → ℕ → Row
row_at rows i = slice_index_or rows i (record { height = 0; litres = 0 })

-- h lies between the rows low and high
pub record Spans (low high : Row) (h : ℕ) : Type 0 where
  pub rises : Rises low high
  pub from_low : low.height ≤ h
  pub to_high : h ≤ high.height

-- low and high are neighbouring rows, high the first above the bottom row that is not below h: h is covered, and its
-- volume lies on their line
pub record Around (rows : List Row) (h : ℕ) (low high : Row) : Type 0 where
  pub place : ℕ
  pub inside : place + 1 < length rows
  pub low_is : low ≡ row_at rows place
  pub high_is : high ≡ row_at rows (place + 1)
  pub first : (k : ℕ) → 0 < k → k ≤ place → (row_at rows k).height < h
  pub covered : h < rows_reach rows
  pub spans : Spans low high h
  pub on_line : rows_volume rows h ≡ line low high h
