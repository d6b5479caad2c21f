-- What a capacity table means, what it keeps, and what it answers.
use Rattle.std.specs.Prelude.{ℕ, ◌<◌, ◌≤◌, cond, pos, Ok, Err, Result, nat_lt, unsigned_abs}
use Rattle.measure.specs.declared.refusal.Refusal.{Refusal}
use Rattle.measure.specs.declared.refusal.Cause.TheVariants.{HeightNotCovered}
use Rattle.measure.specs.Refusals.{refusal}
use Rattle.measure.specs.Limits.{largest_reach, largest_litres}
use Rattle.measure.specs.Fractions.{Fraction, natural, none, ten, ◌⊗◌, ◌⊑◌}
use Rattle.measure.specs.Rounding.{rounded_fraction}

-- what every kind of table keeps: its reach has a limit, and below it volumes have limits and never fall
pub record TableLaws {T : Type 0} (reach : T → ℕ) (volume : T → ℕ → Fraction) : Type 0 where
  pub reach_most : (t : T) → reach t ≤ largest_reach
  pub volume_least : (t : T) (h : ℕ) → h < reach t → none ⊑ volume t h
  pub volume_most : (t : T) (h : ℕ) → h < reach t → volume t h ⊑ natural largest_litres
  pub never_falls : (t : T) (g h : ℕ) → g ≤ h → h < reach t → volume t g ⊑ volume t h

-- the meaning of a kind of table: the reach of each, and its exact volume in litres at each height below the reach
pub record TableMeaning (T : Type 0) : Type 0 where
  pub reach : T → ℕ
  pub volume : T → ℕ → Fraction
  pub laws : TableLaws reach volume

-- ten times a volume in litres, rounded: tenths of a litre
abbrev pub tenths_of : Fraction → ℕ
tenths_of v = unsigned_abs (rounded_fraction (ten ⊗ v))

abbrev pub not_covered : ℕ → Refusal
not_covered h = refusal HeightNotCovered (pos h)

-- the answer for a height, from a reach and the volumes below it
abbrev pub answer_of : ℕ → (ℕ → Fraction) → ℕ → Result ℕ Refusal
answer_of reach volume h = cond (nat_lt h reach) (Ok (tenths_of (volume h))) (Err (not_covered h))

-- what a table answers for a height
abbrev pub answered : {T : Type 0} → TableMeaning T → T → ℕ → Result ℕ Refusal
answered m t h = answer_of (m.reach t) (m.volume t) h
