use Rattle.std.proofs.Common.{ℕ, ◌-◌, ◌<◌, ◌≤◌, length}
use Rattle.capacity.specs.RowSearch.{row_at}
use Rattle.capacity.proofs.strapped.Strapped.rows_around.Given as goal

-- the row `high` is not below the height, and the rows before `low` are, but for the bottom row
abbrev pub invariant-loop-low : goal.invariant-loop-low
invariant-loop-low l =
    (0 < l.low) × (l.low ≤ l.high) × (l.high < length l.self.rows.now) × (l.height ≤ (row_at l.self.rows.now l.high).height)
    × ((k : ℕ) → 0 < k → k < l.low → (row_at l.self.rows.now k).height < l.height)

abbrev pub decreases-loop-low : goal.decreases-loop-low
decreases-loop-low l = l.high - l.low
