-- What a product rule means, keeps and answers.
use Rattle.std.specs.Prelude.{ℕ, ◌≤◌, Bool, cond, ◌&&◌, pos, Ok, Err, Result, nat_le, unsigned_abs}
use Rattle.std.proofs.Common.{lit<}
use Rattle.measure.specs.declared.refusal.Refusal.{Refusal}
use Rattle.measure.specs.declared.refusal.Cause.TheVariants.{DensityOutside}
use Rattle.measure.specs.Refusals.{refusal}
use Rattle.measure.specs.Fractions.{Fraction, none, natural, over, ◌⊗◌, ◌⊑◌}
use Rattle.measure.specs.Rounding.{rounded_fraction}

-- densities of any rule, in half kilograms per cubic metre
abbrev pub least_density : ℕ
least_density = 1000

abbrev pub greatest_density : ℕ
greatest_density = 2400

-- 0.002 per °C
abbrev pub largest_coefficient : Fraction
largest_coefficient = over 2 1000 (lit< tt)

pub record RuleLaws {P : Type 0} (lowest highest : P → ℕ) (coefficient : P → ℕ → Fraction) : Type 0 where
  pub range_least : (p : P) → least_density ≤ lowest p
  pub range_most : (p : P) → highest p ≤ greatest_density
  pub not_empty : (p : P) → lowest p ≤ highest p
  pub coefficient_least : (p : P) (r : ℕ) → lowest p ≤ r → r ≤ highest p → none ⊑ coefficient p r
  pub coefficient_most : (p : P) (r : ℕ) → lowest p ≤ r → r ≤ highest p → coefficient p r ⊑ largest_coefficient

pub record RuleMeaning (P : Type 0) : Type 0 where
  pub lowest : P → ℕ
  pub highest : P → ℕ
  pub coefficient : P → ℕ → Fraction
  pub laws : RuleLaws lowest highest coefficient

-- 10^12 times a coefficient per °C, rounded
abbrev pub million_millionths : Fraction → ℕ
million_millionths a = unsigned_abs (rounded_fraction (natural 1000000000000 ⊗ a))

abbrev pub covered : {P : Type 0} → RuleMeaning P → P → ℕ → Bool
covered m p r = nat_le (m.lowest p) r && nat_le r (m.highest p)

abbrev pub answered : {P : Type 0} → RuleMeaning P → P → ℕ → Result ℕ Refusal
answered m p r = cond (covered m p r) (Ok (million_millionths (m.coefficient p r))) (Err (refusal DensityOutside (pos r)))
