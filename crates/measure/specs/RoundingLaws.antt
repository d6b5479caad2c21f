-- What every use of the rounding may rely on, and nothing else about it.
use Rattle.std.specs.Prelude.{◌≡◌, ℕ, ◌+◌, ◌*◌, ◌<◌, ℤ, pos, ◌*ℤ◌, neg_ℤ, ◌≤ℤ◌}
use Rattle.measure.specs.Fractions.{Fraction, quotient, whole, one_half, ◌⊑◌, Within}
use Rattle.measure.specs.Rounding.{rounded, rounded_fraction}

pub record RoundingLaws : Type 0 where
  -- it is at most a half away from the exact quotient
  pub near : (a : ℤ) (d : ℕ) (h : 0 < d) → Within one_half (whole (rounded a d)) (quotient a d h)
  -- a larger quotient is never rounded to less
  pub monotone : (a b : ℤ) (c d : ℕ) (h : 0 < c) (k : 0 < d) → quotient a c h ⊑ quotient b d k → rounded a c ≤ℤ rounded b d
  -- where the divisor divides, it is the quotient
  pub exact : (a : ℤ) (d : ℕ) → 0 < d → rounded (a *ℤ pos d) d ≡ a
  -- both signs are treated alike
  pub mirrored : (a : ℤ) (d : ℕ) → 0 < d → rounded (neg_ℤ a) d ≡ neg_ℤ (rounded a d)
  -- q and a half is rounded to q + 1
  pub half_away : (q d : ℕ) → 0 < d → rounded (pos ((2 * q + 1) * d)) (2 * d) ≡ pos (q + 1)

-- the same of fractions
pub record FractionRounding : Type 0 where
  pub near : (x : Fraction) → Within one_half (whole (rounded_fraction x)) x
  pub monotone : (x y : Fraction) → x ⊑ y → rounded_fraction x ≤ℤ rounded_fraction y
  pub exact : (a : ℤ) → rounded_fraction (whole a) ≡ a
