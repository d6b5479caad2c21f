-- Examination of the rows above the bottom one is the first refusal of a row by the one below it.
use Rattle.std.proofs.Common.{◌≡◌, ℕ, ◌+◌, ◌<◌, ◌≤◌, List, [], ◌∷◌, length, get_or, drop, Option, refl, ap, ◌∙◌, arith}
use Rattle.std.specs.List.{enumerate_from, zip}
use Rattle.std.proofs.lemmas.Bool.Decides.{nat_tests}
use Rattle.std.proofs.lemmas.List.{length-drop}
use Rattle.std.proofs.lemmas.List.FromFn.{length-enumerate_from, get_or-enumerate_from}
use Rattle.std.proofs.lemmas.Slice.Zip.{length-zip}
use Rattle.measure.specs.declared.refusal.Refusal.{Refusal}
use Rattle.measure.specs.Limits.{largest_litres}
use Rattle.capacity.specs.Limits.{fewest_rows, most_rows}
use Rattle.capacity.specs.declared.row.Row.{Row}
use Rattle.capacity.specs.Rows.{examined_above, examined}
use Rattle.capacity.specs.RowSearch.{row_at}
use Rattle.capacity.proofs.FindMap.{first_some}

-- what is wrong with the upper of two neighbouring rows, the lower of which is at place k
abbrev pub upper_refusal : ℕ × (Row × Row) → Option Refusal
upper_refusal (k, (last, row)) = examined_above (k + 1) last (row ∷ [])

-- each row's place, the row and the next one
abbrev pub neighbours : List Row → List (ℕ × (Row × Row))
neighbours rows = enumerate_from 0 (zip rows (drop 1 rows))

from_place : (k : ℕ) (low : Row) (rows : List Row) → first_some upper_refusal (enumerate_from k (zip (low ∷ rows) rows)) ≡ examined_above (k + 1) low rows
from_place k low [] = refl
from_place k low (row ∷ rows) = let rest = from_place (k + 1) row rows in grind (arith, nat_tests, rest)

-- a place among the neighbours is below that of the top row
pub place_inside : (rows : List Row) (k : ℕ) (p : ℕ × (Row × Row)) → k < length (neighbours rows) → p ≡ get_or (neighbours rows) k p → p.0 + 1 < length rows
place_inside rows k p inside e =
    let pairs : List (Row × Row) = zip rows (drop 1 rows) in
    let at = ap (λ (q : ℕ × (Row × Row)). q.0) (e ∙ get_or-enumerate_from 0 pairs k p (omega (arith, length-enumerate_from 0 pairs))) in
    omega (arith, length-enumerate_from 0 pairs, length-zip rows (drop 1 rows), length-drop 1 rows)

-- what is left of a draft's examination where its count and its first row are right
pub examined_from : (rows : List Row) → fewest_rows ≤ length rows → length rows ≤ most_rows → (row_at rows 0).height ≡ 0 → (row_at rows 0).litres ≤ largest_litres → first_some upper_refusal (neighbours rows) ≡ examined rows
examined_from [] some many at_zero within = absurd (omega arith)
examined_from (first ∷ above) some many at_zero within = from_place 0 first above ∙ grind (arith, nat_tests)
