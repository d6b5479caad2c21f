-- Rounded: to the nearest whole number, a half away from zero. This is the only definition of it: tables, rules and
-- the working of a reading cite it, and their proofs use the laws in RoundingLaws alone.
use Rattle.std.specs.Prelude.{ℕ, suc, ◌+◌, ◌*◌, ◌/◌, ℤ, pos, negsuc, neg_ℤ}
use Rattle.measure.specs.Fractions.{Fraction, numerator}

-- the size n / d to the nearest whole number, a half up: n / d and a half more, cut off
unfoldable pub nearest : ℕ → ℕ → ℕ
nearest n d = (2 * n + d) / (2 * d)

-- a / d to the nearest whole number, a half away from zero: the size is rounded, and the sign put back
abbrev pub rounded : ℤ → ℕ → ℤ
rounded (pos n) d = pos (nearest n d)
rounded (negsuc n) d = neg_ℤ (pos (nearest (suc n) d))

-- a fraction to the nearest whole number
abbrev pub rounded_fraction : Fraction → ℤ
rounded_fraction x = rounded (numerator x) x.den
