-- Between two neighbouring rows the volume is that of the straight line through them.
use Rattle.std.proofs.Common.{◌≡◌, ℕ, zero, suc, ◌+◌, ◌-◌, ◌*◌, ◌<◌, ◌≤◌, true, leb, List, [], ◌∷◌, length, sym, ap, ◌∙◌, subst, not-suc-le-zero, add-one, arith}
use Rattle.std.proofs.lemmas.Bool.{le-leb, leb-true, cond_both}
use Rattle.measure.specs.Fractions.{Fraction, natural, over, ◌⊕◌, ◌≃◌}
use Rattle.measure.specs.FractionLaws.{≃_refl, ≃_sym, ≃_trans}
use Rattle.capacity.specs.declared.row.Row.{Row}
use Rattle.capacity.specs.Rows.{sound, line, volume_above, rows_volume}
use Rattle.capacity.specs.RowLaws.{Rises, Clear, next_rises, first_sound, run_some, line_is}
use Rattle.capacity.specs.RowSearch.{row_at}
use Rattle.table_laws.specs.SurveyLaws.{StraightLines}
use Rattle.capacity.proofs.RowPlaces.{rises_above, climb_above}

line_at : (a b rise run x : ℕ) (h : 0 < run) → b ≡ a + rise → x ≡ rise * run → natural a ⊕ over x run h ≃ natural b
line_at a b rise run x h e f = rw (e, f) (omega arith)

-- a line ends at the litres of its upper row
line_top : (low high : Row) (h : ℕ) → Rises low high → h ≡ high.height → line low high h ≃ natural high.litres
line_top low high h r e =
    let rise = high.litres - low.litres in
    let run = high.height - low.height in
    let more = r.litres_rise in
    let all : rise * (h - low.height) ≡ rise * run = ap (λ (n : ℕ). rise * (n - low.height)) e in
    subst (λ (v : Fraction). v ≃ natural high.litres) (sym (line_is low high h r))
    (line_at low.litres high.litres rise run (rise * (h - low.height)) (run_some r) (omega arith) all)

-- and begins at those of its lower row
line_bottom : (low high : Row) (h : ℕ) → Rises low high → h ≡ low.height → line low high h ≃ natural low.litres
line_bottom low high h r e =
    let rise = high.litres - low.litres in
    let run = high.height - low.height in
    let share : h - low.height ≡ 0 = omega arith in
    let none : rise * (h - low.height) ≡ 0 * run = ap (λ (n : ℕ). rise * n) share ∙ omega arith in
    subst (λ (v : Fraction). v ≃ natural low.litres) (sym (line_is low high h r))
    (line_at low.litres low.litres 0 run (rise * (h - low.height)) (run_some r) (omega arith) none)

straight : (j : ℕ) (low : Row) (rows : List Row) (i h : ℕ) → Clear j low rows → i < length rows → (row_at (low ∷ rows) i).height ≤ h → h ≤ (row_at rows i).height → volume_above low rows h ≃ line (row_at (low ∷ rows) i) (row_at rows i) h
straight j low [] i h clear inside from to = absurd (not-suc-le-zero inside)
straight j low (next ∷ rows) zero h clear inside from to =
    rw (le-leb h next.height to) (≃_refl (line low next h))
straight j low (next ∷ rows) (suc i) h clear inside from to =
    let rest = next_rises j low next rows clear in
    cond_both (leb h next.height) (line low next h) (volume_above next rows h) (λ v. v ≃ line (row_at (next ∷ rows) i) (row_at rows i) h)
    (λ below. met i inside from to rest.0 rest.1 (leb-true h next.height below))
    (λ _. straight (j + 1) next rows i h rest.1 (omega arith) from to)
  where
    -- both lines meet at the row between them
    met : (i : ℕ) → suc i < length (next ∷ rows) → (row_at (next ∷ rows) i).height ≤ h → h ≤ (row_at rows i).height → Rises low next → Clear (j + 1) next rows → h ≤ next.height → line low next h ≃ line (row_at (next ∷ rows) i) (row_at rows i) h
    met zero inside from to r clear below =
        let at_row : h ≡ next.height = omega arith in
        ≃_trans (line low next h) (natural next.litres) (line next (row_at rows 0) h)
        (line_top low next h r at_row)
        (≃_sym (line next (row_at rows 0) h) (natural next.litres) (line_bottom next (row_at rows 0) h (rises_above (j + 1) next rows 0 clear (omega arith)) at_row))
    met (suc i) inside from to r clear below =
        let first = rises_above (j + 1) next rows 0 clear (omega arith) in
        let step = first.height_rises in
        let up = climb_above (j + 1) next rows 1 (suc i) clear (omega arith) (omega arith) in
        absurd (omega arith)

from_bottom : (rows : List Row) (i h : ℕ) → sound rows ≡ true → suc i < length rows → (row_at rows i).height ≤ h → h ≤ (row_at rows (suc i)).height → rows_volume rows h ≃ line (row_at rows i) (row_at rows (suc i)) h
from_bottom [] i h s inside from to = absurd (not-suc-le-zero inside)
from_bottom (first ∷ rows) i h s inside from to = straight 1 first rows i h (first_sound first rows s).above (omega arith) from to

pub straight_lines : StraightLines
straight_lines = record {
  on_line = λ rows i h. rw (add-one i) (from_bottom rows i h);
}
