-- Exact numbers: the fraction (up − down) / den, with a divisor above 0. Two naturals carry the sign, so that every
-- law about fractions is one about naturals.
use Rattle.std.specs.Prelude.{◌≡◌, ℕ, zero, suc, ◌+◌, ◌*◌, ◌<◌, ◌≤◌, ℤ, pos, ◌-ℤ◌}
use Rattle.std.proofs.Common.{mul-pos, zero-lt-suc, lit<}
use borrow.Author.Differences as Parts

pub record Fraction : Type 0 where
  pub up : ℕ
  pub down : ℕ
  pub den : ℕ
  pub some : 0 < den

-- ---- how a fraction is written

-- a whole number over a natural one
abbrev pub quotient : ℤ → (d : ℕ) → 0 < d → Fraction
quotient a d h = record { up = Parts.up a; down = Parts.down a; den = d; some = h }

-- a natural number over another
abbrev pub over : (n d : ℕ) → 0 < d → Fraction
over n d h = record { up = n; down = 0; den = d; some = h }

-- n / d for any d, and 0 where d is 0
abbrev pub per : ℕ → ℕ → Fraction
per n zero = over 0 1 (lit< tt)
per n (suc d) = over n (suc d) (zero-lt-suc d)

abbrev pub whole : ℤ → Fraction
whole a = quotient a 1 (lit< tt)

abbrev pub natural : ℕ → Fraction
natural n = over n 1 (lit< tt)

abbrev pub none : Fraction
none = natural 0

abbrev pub one_half : Fraction
one_half = over 1 2 (lit< tt)

abbrev pub ten : Fraction
ten = natural 10

-- what stands above the line
abbrev pub numerator : Fraction → ℤ
numerator x = pos x.up -ℤ pos x.down

-- ---- sum, difference and product
infixl 6 ◌⊕◌ ◌⊖◌
infixl 7 ◌⊗◌
abbrev pub ◌⊕◌ : Fraction → Fraction → Fraction
x ⊕ y = record {
  up = x.up * y.den + y.up * x.den;
  down = x.down * y.den + y.down * x.den;
  den = x.den * y.den;
  some = mul-pos x.some y.some;
}

abbrev pub negated : Fraction → Fraction
negated x = record { up = x.down; down = x.up; den = x.den; some = x.some }

abbrev pub ◌⊖◌ : Fraction → Fraction → Fraction
x ⊖ y = x ⊕ negated y

abbrev pub ◌⊗◌ : Fraction → Fraction → Fraction
x ⊗ y = record {
  up = x.up * y.up + x.down * y.down;
  down = x.up * y.down + x.down * y.up;
  den = x.den * y.den;
  some = mul-pos x.some y.some;
}

-- ---- order, by multiplying across
infix 4 ◌⊑◌ ◌≃◌
-- x is at most y
abbrev pub ◌⊑◌ : Fraction → Fraction → Type 0
x ⊑ y = x.up * y.den + y.down * x.den ≤ y.up * x.den + x.down * y.den

-- x and y are the same number
abbrev pub ◌≃◌ : Fraction → Fraction → Type 0
x ≃ y = x.up * y.den + y.down * x.den ≡ y.up * x.den + x.down * y.den

-- x and y are at most e apart
pub record Within (e x y : Fraction) : Type 0 where
  pub below : x ⊑ y ⊕ e
  pub above : y ⊑ x ⊕ e
