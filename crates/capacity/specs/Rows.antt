-- The rows of a strapped survey: what examination answers, and the volume on the straight lines between them.
use Rattle.std.specs.Prelude.{ℕ, ◌+◌, ◌-◌, ◌*◌, Bool, true, false, cond, not, ◌||◌, List, [], ◌∷◌, length, pos, Some, None, Option, ◌==◌, nat_le, nat_lt}
use Rattle.measure.specs.declared.refusal.Refusal.{Refusal}
use Rattle.measure.specs.declared.refusal.Cause.TheVariants.{RowCount, FirstHeight, RowHeight, RowLitres}
use Rattle.measure.specs.Refusals.{refusal}
use Rattle.measure.specs.Limits.{highest_level, largest_litres}
use Rattle.measure.specs.Fractions.{Fraction, natural, none, per, ◌⊕◌}
use Rattle.capacity.specs.declared.row.Row.{Row}
use Rattle.capacity.specs.Limits.{fewest_rows, most_rows}

-- ---- examination

abbrev pub refused_if : Bool → Refusal → Option Refusal → Option Refusal
refused_if test found rest = cond test (Some found) rest

-- the rows from place i on, above the row `last`: in each the height is asked before the litres
abbrev pub examined_above : ℕ → Row → List Row → Option Refusal
examined_above i last [] = None
examined_above i last (row ∷ rows) =
    refused_if (nat_le row.height last.height || nat_lt highest_level row.height) (refusal RowHeight (pos i))
    (refused_if (nat_lt row.litres last.litres || nat_lt largest_litres row.litres) (refusal RowLitres (pos i))
    (examined_above (i + 1) row rows))

abbrev pub examined_rows : List Row → Option Refusal
examined_rows [] = None
examined_rows (first ∷ rows) =
    refused_if (not (first.height == 0)) (refusal FirstHeight (pos 0))
    (refused_if (nat_lt largest_litres first.litres) (refusal RowLitres (pos 0))
    (examined_above 1 first rows))

-- the first refusal of a draft's rows, or none
abbrev pub examined : List Row → Option Refusal
examined rows =
    refused_if (nat_lt (length rows) fewest_rows || nat_lt most_rows (length rows)) (refusal RowCount (pos (length rows)))
    (examined_rows rows)

-- ---- sealing

abbrev pub nothing_found : Option Refusal → Bool
nothing_found None = true
nothing_found (Some found) = false

-- the rows of the sealed table: those of the draft, or none where examination refuses it
abbrev pub sealed : List Row → List Row
sealed rows = cond (nothing_found (examined rows)) rows []

-- what the rows of every sealed table are: none, or rows in which examination finds nothing
abbrev pub sound : List Row → Bool
sound [] = true
sound (row ∷ rows) = nothing_found (examined (row ∷ rows))

-- ---- reach and volume

-- the last height plus 1
abbrev pub rows_reach : List Row → ℕ
rows_reach [] = 0
rows_reach (row ∷ []) = row.height + 1
rows_reach (row ∷ (next ∷ rows)) = rows_reach (next ∷ rows)

-- the straight line from the row `low` to the row `high`: low's litres, and of the rise the share of the height above low
abbrev pub line : Row → Row → ℕ → Fraction
line low high h = natural low.litres ⊕ per ((high.litres - low.litres) * (h - low.height)) (high.height - low.height)

-- the volume at h, on the line to the first row that is not below h
abbrev pub volume_above : Row → List Row → ℕ → Fraction
volume_above low [] h = natural low.litres
volume_above low (next ∷ rows) h = cond (nat_le h next.height) (line low next h) (volume_above next rows h)

abbrev pub rows_volume : List Row → ℕ → Fraction
rows_volume [] h = none
rows_volume (low ∷ rows) h = volume_above low rows h
