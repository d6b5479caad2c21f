-- What examination and interpolation mean, told by places and not by steps.
use Rattle.std.specs.Prelude.{◌≡◌, ℕ, ◌+◌, ◌<◌, ◌≤◌, true, List, length, pos, Some, None}
use Rattle.measure.specs.declared.refusal.Refusal.{Refusal}
use Rattle.measure.specs.declared.refusal.Cause.TheVariants.{RowCount, FirstHeight, RowHeight, RowLitres}
use Rattle.measure.specs.Refusals.{refusal}
use Rattle.measure.specs.Limits.{highest_level, largest_litres}
use Rattle.measure.specs.Fractions.{◌≃◌}
use Rattle.capacity.specs.declared.row.Row.{Row}
use Rattle.capacity.specs.Limits.{fewest_rows, most_rows}
use Rattle.capacity.specs.Rows.{examined, sound, line, rows_volume}
use Rattle.capacity.specs.RowSearch.{row_at}

-- ---- which rows are right

abbrev pub CountRight : List Row → Type 0
CountRight rows = (fewest_rows ≤ length rows) × (length rows ≤ most_rows)

abbrev pub FirstRight : List Row → Type 0
FirstRight rows = (row_at rows 0).height ≡ 0

-- the row at place i is within the limit, and above the row before it where there is one
pub record HeightRight (rows : List Row) (i : ℕ) : Type 0 where
  pub within : (row_at rows i).height ≤ highest_level
  pub above : (k : ℕ) → k + 1 ≡ i → (row_at rows k).height < (row_at rows i).height

-- it holds no more than the limit, and no less than the row before it
pub record LitresRight (rows : List Row) (i : ℕ) : Type 0 where
  pub within : (row_at rows i).litres ≤ largest_litres
  pub no_less : (k : ℕ) → k + 1 ≡ i → (row_at rows k).litres ≤ (row_at rows i).litres

abbrev pub RightBefore : List Row → ℕ → Type 0
RightBefore rows i = (k : ℕ) → k < i → HeightRight rows k × LitresRight rows k

-- ---- the first refusal: what stands before it is right, and what it names is wrong

pub data FirstWrong (rows : List Row) : Refusal → Type 0 where
  count : (CountRight rows → ⊥) → FirstWrong rows (refusal RowCount (pos (length rows)))
  first : CountRight rows → (FirstRight rows → ⊥) → FirstWrong rows (refusal FirstHeight (pos 0))
  height : CountRight rows → FirstRight rows → (i : ℕ) → i < length rows → RightBefore rows i → (HeightRight rows i → ⊥) → FirstWrong rows (refusal RowHeight (pos i))
  litres : CountRight rows → FirstRight rows → (i : ℕ) → i < length rows → RightBefore rows i → HeightRight rows i → (LitresRight rows i → ⊥) → FirstWrong rows (refusal RowLitres (pos i))

pub record ExaminationLaws : Type 0 where
  -- a refusal names the first wrong thing
  pub names_first : (rows : List Row) (e : Refusal) → examined rows ≡ Some e → FirstWrong rows e
  -- rows that are not refused are right throughout, and rows that are right throughout are not refused
  pub all_right : (rows : List Row) → examined rows ≡ None → CountRight rows × FirstRight rows × RightBefore rows (length rows)
  pub right_passes : (rows : List Row) → CountRight rows → FirstRight rows → RightBefore rows (length rows) → examined rows ≡ None

-- ---- straight lines

-- between two neighbouring rows of a sealed table the volume runs in a straight line, from the litres of the lower row
-- to those of the upper
pub record StraightLines : Type 0 where
  pub on_line : (rows : List Row) (i h : ℕ) → sound rows ≡ true → i + 1 < length rows → (row_at rows i).height ≤ h → h ≤ (row_at rows (i + 1)).height → rows_volume rows h ≃ line (row_at rows i) (row_at rows (i + 1)) h
