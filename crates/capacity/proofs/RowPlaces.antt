-- Sound rows by their places: which rise, which is the last, and on which line a height lies.
use Rattle.std.proofs.Common.{Bor, Some, None, Option, MatchOption, slice_get, ◌≡◌, ℕ, zero, suc, ◌+◌, ◌-◌, ◌<◌, ◌≤◌, true, List, [], ◌∷◌, length, refl, ap, ◌∙◌, not-suc-le-zero, arith}
use native.Mathlib.Numerals.{unary_clauses}
use Rattle.std.specs.Option.{option_copied}
use Rattle.std.specs.List.Sorted.{IsNonDecreasingBy}
use Rattle.std.proofs.lemmas.Bool.{le-leb, lt-leb}
use Rattle.std.proofs.lemmas.Option.{none-some, same_Some, slice_get-get_or}
use Rattle.std.proofs.lemmas.List.Sorted.{IsNonDecreasingBy-short, IsNonDecreasingBy-from_default}
use Rattle.capacity.specs.declared.row.Row.{Row}
use Rattle.capacity.specs.Rows.{sound, rows_reach, line, volume_above}
use Rattle.capacity.specs.RowLaws.{Rises, Clear, next_rises, first_sound}
use Rattle.capacity.specs.RowSearch.{row_at, Around}

-- what stands where the rows have ended
abbrev pub nowhere : Row
nowhere = record { height = 0; litres = 0 }

-- ---- rising by places

pub rises_above : (j : ℕ) (low : Row) (rows : List Row) (i : ℕ) → Clear j low rows → i < length rows → Rises (row_at (low ∷ rows) i) (row_at rows i)
rises_above j low [] i clear inside = absurd (not-suc-le-zero inside)
rises_above j low (next ∷ rows) zero clear inside = (next_rises j low next rows clear).0
rises_above j low (next ∷ rows) (suc i) clear inside = rises_above (j + 1) next rows i (next_rises j low next rows clear).1 (omega arith)

pub climb_above : (j : ℕ) (low : Row) (rows : List Row) (i k : ℕ) → Clear j low rows → i ≤ k → k < length (low ∷ rows) → (row_at (low ∷ rows) i).height ≤ (row_at (low ∷ rows) k).height
climb_above j low rows zero zero clear le inside = omega arith
climb_above j low rows (suc i) zero clear le inside = absurd (not-suc-le-zero le)
climb_above j low [] i (suc k) clear le inside = absurd (omega arith)
climb_above j low (next ∷ rows) zero (suc k) clear le inside =
    let rest = next_rises j low next rows clear in
    let step = rest.0.height_rises in
    omega (arith, climb_above (j + 1) next rows zero k rest.1 (omega arith) (omega arith))
climb_above j low (next ∷ rows) (suc i) (suc k) clear le inside =
    climb_above (j + 1) next rows i k (next_rises j low next rows clear).1 (omega arith) (omega arith)

-- heights rise from row to row
pub heights_rise : (rows : List Row) → sound rows ≡ true → IsNonDecreasingBy (λ (row : Row). row.height) rows
heights_rise [] s = IsNonDecreasingBy-short (λ (row : Row). row.height) [] (omega arith)
heights_rise (first ∷ above) s =
    IsNonDecreasingBy-from_default (λ (row : Row). row.height) (first ∷ above) nowhere (λ i k le inside. climb_above 1 first above i k (first_sound first above s).above le inside)

-- ---- the last row

pub last_is_reach : (low : Row) (rows : List Row) → (row_at (low ∷ rows) (length rows)).height + 1 ≡ rows_reach (low ∷ rows)
last_is_reach low [] = refl
last_is_reach low (next ∷ rows) = last_is_reach next rows

last_got : (low : Row) (rows : List Row) → slice_get (low ∷ rows) (length (low ∷ rows) - 1) ≡ Some (row_at (low ∷ rows) (length rows))
last_got low rows = simp unary_clauses (slice_get-get_or (low ∷ rows) (length rows) nowhere (omega arith))

-- the reach by the row that `last` lends
abbrev pub ReachByLast : List Row → Option (Bor Row) → Type 0
ReachByLast rows last = MatchOption last (rows_reach rows ≡ 0) (λ (row : Bor Row). row.now.height + 1 ≡ rows_reach rows)

pub reach_by_last : (rows : List Row) (last : Option (Bor Row)) → option_copied last ≡ slice_get rows (length rows - 1) → ReachByLast rows last
reach_by_last [] None e = refl
reach_by_last [] (Some row) e = absurd (cc)
reach_by_last (low ∷ rows) None e = absurd (none-some _ (e ∙ last_got low rows))
reach_by_last (low ∷ rows) (Some row) e = ap (λ (top : Row). top.height + 1) (same_Some _ _ (e ∙ last_got low rows)) ∙ last_is_reach low rows

-- ---- the pair of a height

on_line : (low : Row) (rows : List Row) (i h : ℕ) → i < length rows → h ≤ (row_at rows i).height → ((k : ℕ) → k < i → (row_at rows k).height < h) → volume_above low rows h ≡ line (row_at (low ∷ rows) i) (row_at rows i) h
on_line low [] i h inside enough first = absurd (not-suc-le-zero inside)
on_line low (next ∷ rows) zero h inside enough first = rw (le-leb h next.height enough) refl
on_line low (next ∷ rows) (suc i) h inside enough first =
    rw (lt-leb h next.height (first zero (omega arith))) (on_line next rows i h (omega arith) enough (λ k l. first (suc k) (omega arith)))

-- no row is at h or above it: the height is not covered
pub beyond : (rows : List Row) (h : ℕ) → (row_at rows (length rows - 1)).height < h → rows_reach rows ≤ h
beyond [] h past = omega arith
beyond (first ∷ above) h past =
    let top = last_is_reach first above in
    let e = simp unary_clauses at past in
    omega (arith, top, e)

around_above : (first : Row) (above : List Row) (h i : ℕ) → sound (first ∷ above) ≡ true → i < length above → h ≤ (row_at above i).height → ((k : ℕ) → 0 < k → k < suc i → (row_at (first ∷ above) k).height < h) → Around (first ∷ above) h (row_at (first ∷ above) i) (row_at above i)
around_above first above h i s inside enough lower =
    let f = first_sound first above s in
    let top = last_is_reach first above in
    let up = climb_above 1 first above (suc i) (length above) f.above (omega arith) (omega arith) in
    record {
      place = i;
      inside = omega arith;
      low_is = refl;
      high_is = simp unary_clauses refl;
      first = λ k above_bottom l. lower k above_bottom (omega arith);
      covered = omega arith;
      spans = record {
        rises = rises_above 1 first above i f.above inside;
        from_low = from_low i lower;
        to_high = enough;
      };
      on_line = on_line first above i h inside enough (λ k l. lower (suc k) (omega arith) (omega arith));
    }
  where
    from_low : (i : ℕ) → ((k : ℕ) → 0 < k → k < suc i → (row_at (first ∷ above) k).height < h) → (row_at (first ∷ above) i).height ≤ h
    from_low zero lower = let zero_first = (first_sound first above s).at_zero in omega arith
    from_low (suc i) lower = let l = lower (suc i) (omega arith) (omega arith) in omega arith

-- else it lies between the first row above the bottom one that is not below it and the one below that
pub around : (rows : List Row) (h upper : ℕ) → sound rows ≡ true → 0 < upper → upper < length rows → h ≤ (row_at rows upper).height → ((k : ℕ) → 0 < k → k < upper → (row_at rows k).height < h) → Around rows h (row_at rows (upper - 1)) (row_at rows upper)
around [] h upper s some inside enough lower = absurd (not-suc-le-zero inside)
around (first ∷ above) h zero s some inside enough lower = absurd (not-suc-le-zero some)
around (first ∷ above) h (suc i) s some inside enough lower = simp unary_clauses (around_above first above h i s (omega arith) enough lower)
