-- The meaning of a fixed coefficient: value × 10^-7 per °C for every density.
use Rattle.std.specs.Prelude.{ℕ, cond, pos, Some, None, Option, nat_lt}
use Rattle.std.proofs.Common.{arith, lit<, lit≤}
use Rattle.measure.specs.declared.refusal.Refusal.{Refusal}
use Rattle.measure.specs.declared.refusal.Cause.TheVariants.{CoefficientLimit}
use Rattle.measure.specs.Refusals.{refusal}
use Rattle.measure.specs.Fractions.{Fraction, over}
use Rattle.product.specs.declared.fixed.FixedCoefficient.{FixedCoefficient}
use Rattle.product.specs.Limits.{largest_fixed}
use Rattle.product.specs.Rules.{least_density, greatest_density, RuleMeaning}

-- why a fixed coefficient is not made
abbrev pub fixed_refusal : ℕ → Option Refusal
fixed_refusal value = cond (nat_lt largest_fixed value) (Some (refusal CoefficientLimit (pos value))) None

abbrev pub fixed_coefficient : FixedCoefficient → ℕ → Fraction
fixed_coefficient p r = over p.value 10000000 (lit< tt)

abbrev pub fixed_meaning : RuleMeaning FixedCoefficient
fixed_meaning = record {
  lowest = λ p. least_density;
  highest = λ p. greatest_density;
  coefficient = fixed_coefficient;
  laws = record {
    range_least = λ p. lit≤ tt;
    range_most = λ p. lit≤ tt;
    not_empty = λ p. lit≤ tt;
    coefficient_least = λ p r low high. omega arith;
    coefficient_most = λ p r low high. let within = p.within in omega arith;
  };
}
