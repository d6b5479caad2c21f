-- What examination shows of rows, and what the volume between such rows keeps.
use Rattle.std.specs.Prelude.{◌≡◌, ℕ, ◌+◌, ◌-◌, ◌*◌, ◌<◌, ◌≤◌, Bool, true, false, cond, List, [], ◌∷◌, Option, nat_le, refl}
use Rattle.std.proofs.Common.{sym, ap, subst, subst₂, mul-le-mul_left, mul-le-mul_right, arith}
use Rattle.std.proofs.lemmas.Bool.{or_parts, not-false, leb-true, leb-false, ltb-false, eqb-true, cond_both, false≢true}
use Rattle.measure.specs.declared.refusal.Refusal.{Refusal}
use Rattle.measure.specs.Limits.{highest_level, largest_reach, largest_litres}
use Rattle.measure.specs.Fractions.{Fraction, natural, over, ◌⊕◌, ◌⊑◌}
use Rattle.measure.specs.FractionLaws.{per_is, ⊑_refl, ⊑_trans, ⊕_mono}
use Rattle.capacity.specs.declared.row.Row.{Row}
use Rattle.capacity.specs.Rows.{refused_if, examined_above, nothing_found, sound, rows_reach, line, volume_above}

-- ---- what examination shows

-- a row and the one above it
pub record Rises (low high : Row) : Type 0 where
  pub height_rises : low.height < high.height
  pub height_within : high.height ≤ highest_level
  pub litres_rise : low.litres ≤ high.litres
  pub litres_within : high.litres ≤ largest_litres

passed : (test : Bool) (found : Refusal) (rest : Option Refusal) → nothing_found (refused_if test found rest) ≡ true → (test ≡ false) × (nothing_found rest ≡ true)
passed true found rest h = absurd (false≢true h)
passed false found rest h = (refl, h)

-- in the rows from place i on, above `low`, examination finds nothing
abbrev pub Clear : ℕ → Row → List Row → Type 0
Clear i low rows = nothing_found (examined_above i low rows) ≡ true

pub next_rises : (i : ℕ) (low next : Row) (rows : List Row) → Clear i low (next ∷ rows) → Rises low next × Clear (i + 1) next rows
next_rises i low next rows h =
    let height = passed _ _ _ h in
    let litres = passed _ _ _ height.1 in
    let heights = or_parts _ _ height.0 in
    let volumes = or_parts _ _ litres.0 in (
      record {
        height_rises = leb-false _ _ heights.0;
        height_within = ltb-false _ _ heights.1;
        litres_rise = ltb-false _ _ volumes.0;
        litres_within = ltb-false _ _ volumes.1;
      },
      litres.1,
    )

pub record FirstSound (first : Row) (rows : List Row) : Type 0 where
  pub at_zero : first.height ≡ 0
  pub litres_within : first.litres ≤ largest_litres
  pub above : Clear 1 first rows

pub first_sound : (first : Row) (rows : List Row) → sound (first ∷ rows) ≡ true → FirstSound first rows
first_sound first rows h =
    let count = passed _ _ _ h in
    let height = passed _ _ _ count.1 in
    let litres = passed _ _ _ height.1 in
    record {
      at_zero = eqb-true _ _ (not-false _ height.0);
      litres_within = ltb-false _ _ litres.0;
      above = litres.1;
    }

-- ---- one straight line

pub run_some : {low high : Row} → Rises low high → 0 < high.height - low.height
run_some r = let rises = r.height_rises in omega arith

pub line_is : (low high : Row) (h : ℕ) (r : Rises low high) → line low high h ≡ natural low.litres ⊕ over ((high.litres - low.litres) * (h - low.height)) (high.height - low.height) (run_some r)
line_is low high h r = ap (λ (x : Fraction). natural low.litres ⊕ x) (per_is ((high.litres - low.litres) * (h - low.height)) (high.height - low.height) (run_some r))

over_rises : (n m d : ℕ) (h : 0 < d) → n ≤ m → over n d h ⊑ over m d h
over_rises n m d h le = omega (arith, mul-le-mul_right d le)

pub line_rises : (low high : Row) (g h : ℕ) → Rises low high → g ≤ h → line low high g ⊑ line low high h
line_rises low high g h r le =
    let rise = high.litres - low.litres in
    let run = high.height - low.height in
    let share : rise * (g - low.height) ≤ rise * (h - low.height) = mul-le-mul_left rise (omega arith) in
    let rises = over_rises (rise * (g - low.height)) (rise * (h - low.height)) run (run_some r) share in
    let lower = over (rise * (g - low.height)) run (run_some r) in
    let higher = over (rise * (h - low.height)) run (run_some r) in
    let above = ⊕_mono (natural low.litres) (natural low.litres) lower higher (⊑_refl (natural low.litres)) rises in
    subst₂ (λ (v w : Fraction). v ⊑ w) (sym (line_is low high g r)) (sym (line_is low high h r)) above

pub line_least : (low high : Row) (h : ℕ) → Rises low high → natural low.litres ⊑ line low high h
line_least low high h r = subst (λ (v : Fraction). natural low.litres ⊑ v) (sym (line_is low high h r)) (omega arith)

line_end : (a b rise run x : ℕ) (h : 0 < run) → b ≡ a + rise → x ≤ rise * run → natural a ⊕ over x run h ⊑ natural b
line_end a b rise run x h e le = rw e (omega arith)

pub line_most : (low high : Row) (h : ℕ) → Rises low high → h ≤ high.height → line low high h ⊑ natural high.litres
line_most low high h r le =
    let rise = high.litres - low.litres in
    let run = high.height - low.height in
    let more = r.litres_rise in
    let share : rise * (h - low.height) ≤ rise * run = mul-le-mul_left rise (omega arith) in
    subst (λ (v : Fraction). v ⊑ natural high.litres) (sym (line_is low high h r))
    (line_end low.litres high.litres rise run (rise * (h - low.height)) (run_some r) (omega arith) share)

-- ---- the volume between rows

litres_rise : (m n : ℕ) → m ≤ n → natural m ⊑ natural n
litres_rise m n le = omega arith

pub volume_least : (i : ℕ) (low : Row) (rows : List Row) (h : ℕ) → Clear i low rows → natural low.litres ⊑ volume_above low rows h
volume_least i low [] h clear = ⊑_refl (natural low.litres)
volume_least i low (next ∷ rows) h clear =
    let rest = next_rises i low next rows clear in
    cond_both (nat_le h next.height) (line low next h) (volume_above next rows h) (λ v. natural low.litres ⊑ v)
    (λ _. line_least low next h rest.0)
    (λ _. ⊑_trans (natural low.litres) (natural next.litres) (volume_above next rows h)
    (litres_rise low.litres next.litres rest.0.litres_rise)
    (volume_least (i + 1) next rows h rest.1))

pub volume_most : (i : ℕ) (low : Row) (rows : List Row) (h : ℕ) → low.litres ≤ largest_litres → Clear i low rows → volume_above low rows h ⊑ natural largest_litres
volume_most i low [] h within clear = litres_rise low.litres largest_litres within
volume_most i low (next ∷ rows) h within clear =
    let rest = next_rises i low next rows clear in
    cond_both (nat_le h next.height) (line low next h) (volume_above next rows h) (λ v. v ⊑ natural largest_litres)
    (λ below. ⊑_trans (line low next h) (natural next.litres) (natural largest_litres)
    (line_most low next h rest.0 (leb-true h next.height below))
    (litres_rise next.litres largest_litres rest.0.litres_within))
    (λ _. volume_most (i + 1) next rows h rest.0.litres_within rest.1)

pub volume_rises : (i : ℕ) (low : Row) (rows : List Row) (g h : ℕ) → g ≤ h → Clear i low rows → volume_above low rows g ⊑ volume_above low rows h
volume_rises i low [] g h le clear = ⊑_refl (natural low.litres)
volume_rises i low (next ∷ rows) g h le clear =
    let rest = next_rises i low next rows clear in
    let lower = volume_above next rows g in
    let higher = volume_above next rows h in
    cond_both (nat_le g next.height) (line low next g) lower (λ v. v ⊑ cond (nat_le h next.height) (line low next h) higher)
    (λ below. cond_both (nat_le h next.height) (line low next h) higher (λ v. line low next g ⊑ v)
    (λ _. line_rises low next g h rest.0 le)
    (λ _. ⊑_trans (line low next g) (natural next.litres) higher
    (line_most low next g rest.0 (leb-true g next.height below))
    (volume_least (i + 1) next rows h rest.1)))
    (λ above. cond_both (nat_le h next.height) (line low next h) higher (λ v. lower ⊑ v)
    (λ below. let p = leb-false g next.height above in
    let q = leb-true h next.height below in
    absurd (omega arith))
    (λ _. volume_rises (i + 1) next rows g h le rest.1))

pub reach_most : (i : ℕ) (low : Row) (rows : List Row) → low.height ≤ highest_level → Clear i low rows → rows_reach (low ∷ rows) ≤ largest_reach
reach_most i low [] within clear = omega arith
reach_most i low (next ∷ rows) within clear =
    let rest = next_rises i low next rows clear in
    reach_most (i + 1) next rows rest.0.height_within rest.1
