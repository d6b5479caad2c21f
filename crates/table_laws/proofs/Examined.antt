-- Examination finds the first wrong thing, and where it finds nothing the rows are right throughout.
use Rattle.std.proofs.Common.{◌≡◌, ℕ, zero, suc, ◌+◌, ◌<◌, ◌≤◌, true, false, not, ◌||◌, eqb, ltb, leb, List, [], ◌∷◌, length, drop, Some, None, Option, sym, refl, ap, ◌∙◌, subst, add-one, arith, length-drop, below_none, below_more}
use Rattle.std.proofs.lemmas.Bool.Decides.{nat_tests}
use Rattle.std.proofs.lemmas.Bool.{cond_both}
use Rattle.measure.specs.declared.refusal.Refusal.{Refusal}
use Rattle.measure.specs.Limits.{highest_level, largest_litres}
use Rattle.capacity.specs.declared.row.Row.{Row}
use Rattle.capacity.specs.Limits.{fewest_rows, most_rows}
use Rattle.capacity.specs.Rows.{examined_above, examined_rows, examined}
use Rattle.capacity.specs.RowSearch.{row_at}
use Rattle.table_laws.specs.SurveyLaws.{CountRight, FirstRight, HeightRight, LitresRight, RightBefore, FirstWrong, count, first, height, litres, ExaminationLaws}

-- what examination has to show of each outcome
abbrev Outcome : List Row → Option Refusal → Type 0
Outcome rows None = RightBefore rows (length rows)
Outcome rows (Some e) = FirstWrong rows e

-- the row that stands first after j rows are dropped
record Stands (rows : List Row) (j : ℕ) (row : Row) (more : List Row) : Type 0 where
  inside : j < length rows
  is : row_at rows j ≡ row
  next : drop (j + 1) rows ≡ more

stands : (rows : List Row) (j : ℕ) (row : Row) (more : List Row) → drop j rows ≡ row ∷ more → Stands rows j row more
stands [] zero row more e = absurd (cc)
stands [] (suc j) row more e = absurd (cc)
stands (r ∷ rs) zero row more e = record { inside = omega arith; is = cc; next = cc }
stands (r ∷ rs) (suc j) row more e =
    let s = stands rs j row more e in
    let inside = s.inside in
    record { inside = omega arith; is = s.is; next = ap (λ (n : ℕ). drop n (r ∷ rs)) (add-one (suc j)) ∙ ap (λ (n : ℕ). drop n rs) (sym (add-one j)) ∙ s.next }

module _ (rows : List Row) (counted : CountRight rows) (bottom : FirstRight rows) where
  -- the rows from place j on, above the row at place k: all before j are right
  walk : (rest : List Row) (j k : ℕ) (last : Row) → drop j rows ≡ rest → k + 1 ≡ j → row_at rows k ≡ last → RightBefore rows j → Outcome rows (examined_above j last rest)
  walk [] j k last e above is before =
      let ended = ap length e in
      let all = simp length-drop at ended in
      λ n l. before n (omega arith)
  walk (row ∷ more) j k last e above is before =
      let s = stands rows j row more e in
      let here = ap (λ (r : Row). r.height) s.is in
      let under = ap (λ (r : Row). r.height) is in
      let held = ap (λ (r : Row). r.litres) s.is in
      let held_under = ap (λ (r : Row). r.litres) is in
      cond_both (◌||◌ (leb row.height last.height) (ltb highest_level row.height)) _ _ (Outcome rows)
      (λ wrong. height counted bottom j s.inside before (λ right.
      let above_last = right.above k above in
      let within = right.within in
      grind (arith, nat_tests)))
      (λ fine.
      let parts : (last.height < row.height) × (row.height ≤ highest_level) = grind (arith, nat_tests) in
      let right : HeightRight rows j = record {
        within = omega arith;
        above = λ n p. subst (λ (m : ℕ). (row_at rows m).height < (row_at rows j).height) {x = k} {y = n} (omega arith) (omega arith);
      } in
      cond_both (◌||◌ (ltb row.litres last.litres) (ltb largest_litres row.litres)) _ _ (Outcome rows)
      (λ wrong. litres counted bottom j s.inside before right (λ holds.
      let no_less = holds.no_less k above in
      let limit = holds.within in
      grind (arith, nat_tests)))
      (λ enough.
      let amounts : (last.litres ≤ row.litres) × (row.litres ≤ largest_litres) = grind (arith, nat_tests) in
      let holds : LitresRight rows j = record {
        within = omega arith;
        no_less = λ n p. subst (λ (m : ℕ). (row_at rows m).litres ≤ (row_at rows j).litres) {x = k} {y = n} (omega arith) (omega arith);
      } in
      walk more (j + 1) j row s.next refl s.is (below_more (λ n. HeightRight rows n × LitresRight rows n) j before (right, holds))))

-- ---- a whole draft

-- a count that passes its test is right, and one that fails it is wrong
counts : (rows : List Row) → ◌||◌ (ltb (length rows) fewest_rows) (ltb most_rows (length rows)) ≡ false → CountRight rows
counts rows t = grind (arith, nat_tests)

miscounts : (rows : List Row) → ◌||◌ (ltb (length rows) fewest_rows) (ltb most_rows (length rows)) ≡ true → CountRight rows → ⊥
miscounts rows t right = grind (arith, nat_tests)

abbrev Verdict : List Row → Option Refusal → Type 0
Verdict rows None = CountRight rows × FirstRight rows × RightBefore rows (length rows)
Verdict rows (Some e) = FirstWrong rows e

judged : (rows : List Row) (found : Option Refusal) → CountRight rows → FirstRight rows → Outcome rows found → Verdict rows found
judged rows None c f o = (c, f, o)
judged rows (Some e) c f o = o

from_first : (rows : List Row) → CountRight rows → Verdict rows (examined_rows rows)
from_first [] c = let few = c.0 in absurd (omega arith)
from_first (row ∷ rows) c =
    cond_both (not (eqb row.height 0)) _ _ (Verdict (row ∷ rows))
    (λ wrong. first c (λ right. grind (arith, nat_tests)))
    (λ fine.
    let bottom : FirstRight (row ∷ rows) = grind (arith, nat_tests) in
    let level : HeightRight (row ∷ rows) 0 = record { within = omega arith; above = λ k p. absurd (omega arith) } in
    cond_both (ltb largest_litres row.litres) _ _ (Verdict (row ∷ rows))
    (λ wrong. litres c bottom 0 (omega arith) (below_none (λ n. HeightRight (row ∷ rows) n × LitresRight (row ∷ rows) n)) level (λ right.
    let within = right.within in
    grind (arith, nat_tests)))
    (λ enough.
    let within : row.litres ≤ largest_litres = grind (arith, nat_tests) in
    let holds : LitresRight (row ∷ rows) 0 = record { within = omega arith; no_less = λ k p. absurd (omega arith) } in
    let before = below_more (λ n. HeightRight (row ∷ rows) n × LitresRight (row ∷ rows) n) 0 (below_none (λ n. HeightRight (row ∷ rows) n × LitresRight (row ∷ rows) n)) (level, holds) in
    judged (row ∷ rows) (examined_above 1 row rows) c bottom (walk (row ∷ rows) c bottom rows 1 0 row refl refl refl before)))

verdict : (rows : List Row) → Verdict rows (examined rows)
verdict rows =
    cond_both (◌||◌ (ltb (length rows) fewest_rows) (ltb most_rows (length rows))) _ _ (Verdict rows)
    (λ wrong. count (miscounts rows wrong))
    (λ fine. from_first rows (counts rows fine))

-- nothing is wrong with rows that are right
nothing_wrong : (rows : List Row) (e : Refusal) → CountRight rows → FirstRight rows → RightBefore rows (length rows) → FirstWrong rows e → ⊥
nothing_wrong rows e c f all (count wrong) = wrong c
nothing_wrong rows e c f all (first _ wrong) = wrong f
nothing_wrong rows e c f all (height _ _ i inside _ wrong) = wrong (all i inside).0
nothing_wrong rows e c f all (litres _ _ i inside _ _ wrong) = wrong (all i inside).1

passes : (rows : List Row) (found : Option Refusal) → CountRight rows → FirstRight rows → RightBefore rows (length rows) → Verdict rows found → found ≡ None
passes rows None c f all v = refl
passes rows (Some e) c f all v = absurd (nothing_wrong rows e c f all v)

pub examination_laws : ExaminationLaws
examination_laws = record {
  names_first = λ rows e found. subst (Verdict rows) found (verdict rows);
  all_right = λ rows found. subst (Verdict rows) found (verdict rows);
  right_passes = λ rows c f all. passes rows (examined rows) c f all (verdict rows);
}
