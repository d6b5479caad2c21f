-- The limits of product rules.
use Rattle.std.specs.Prelude.{ℕ}

-- a fixed coefficient, in units of 10^-7 per °C
abbrev pub largest_fixed : ℕ
largest_fixed = 20000
