-- How large each step of the working can be.
use Rattle.std.proofs.Common.{◌≡◌, ℕ, zero, suc, ◌-◌, ◌*◌, ◌<◌, ◌≤◌, ℤ, pos, negsuc, ◌+ℤ◌, ◌*ℤ◌, ◌≤ℤ◌, subst, arith, lit<, lit≤}
use native.Mathlib.Numerals.{unary_clauses}
use lib.IntN.{*ℤ_comm}
use borrow.Author.Differences.{ints}
use Rattle.measure.specs.Rounding.{rounded}
use Rattle.working.specs.Limits.{largest_shell, most_coefficient, Between, OffsetWithin, ExpansionWithin, ExponentWithin, least_correction, most_correction}
use Rattle.working.specs.Steps.{unit, wall_expansion, wall_expansion_rounded, expansion, exponent, correction_step, correction_from}
use Rattle.working.proofs.Ranges.{size_most, wider, sum_between, product_between, square_between, rounded_between}

-- ---- the wall

pub wall_expansion_size : (shell : ℕ) (d : ℤ) → shell ≤ largest_shell → OffsetWithin d → Between 165000000000 405000000000 (wall_expansion shell d)
wall_expansion_size shell d h b = product_between shell largest_shell 550000000 1350000000 d h b

pub wall_expansion_rounded_size : (shell : ℕ) (d : ℤ) → shell ≤ largest_shell → OffsetWithin d → Between 1650000 4050000 (wall_expansion_rounded shell d)
wall_expansion_rounded_size shell d h b = rounded_between 1650000 4050000 100000 (wall_expansion shell d) (lit< tt) (wall_expansion_size shell d h b)

pub twice_expansion_size : (shell : ℕ) (d : ℤ) → shell ≤ largest_shell → OffsetWithin d → Between 3300000000000000 8100000000000000 (pos 20000 *ℤ wall_expansion shell d)
twice_expansion_size shell d h b = product_between 20000 20000 165000000000 405000000000 (wall_expansion shell d) (lit≤ tt) (wall_expansion_size shell d h b)

pub expansion_square_size : (shell : ℕ) (d : ℤ) → shell ≤ largest_shell → OffsetWithin d → Between 0 16402500000000 (wall_expansion_rounded shell d *ℤ wall_expansion_rounded shell d)
expansion_square_size shell d h b =
    let z = wall_expansion_rounded shell d in
    square_between 4050000 z (size_most 4050000 1650000 4050000 z (wall_expansion_rounded_size shell d h b) (lit≤ tt) (lit≤ tt))

abbrev pub growth_sum : ℕ → ℤ → ℤ
growth_sum shell d = (pos 20000 *ℤ wall_expansion shell d) +ℤ (wall_expansion_rounded shell d *ℤ wall_expansion_rounded shell d)

pub growth_sum_size : (shell : ℕ) (d : ℤ) → shell ≤ largest_shell → OffsetWithin d → Between 3300000000000000 9000000000000000 (growth_sum shell d)
growth_sum_size shell d h b =
    let z = wall_expansion_rounded shell d in
    wider 3300000000000000 8116402500000000 3300000000000000 9000000000000000 (growth_sum shell d) (lit≤ tt) (lit≤ tt)
    (sum_between 3300000000000000 8100000000000000 0 16402500000000 (pos 20000 *ℤ wall_expansion shell d) (z *ℤ z) (twice_expansion_size shell d h b) (expansion_square_size shell d h b))

pub growth_size : (shell : ℕ) (d : ℤ) → shell ≤ largest_shell → OffsetWithin d → Between 3300000 9000000 (rounded (growth_sum shell d) unit)
growth_size shell d h b = rounded_between 3300000 9000000 unit (growth_sum shell d) (lit< tt) (growth_sum_size shell d h b)

-- ---- the correction

pub expansion_size : (coefficient : ℕ) (d : ℤ) → coefficient ≤ most_coefficient → OffsetWithin d → ExpansionWithin (expansion coefficient d)
unfolding expansion
expansion_size coefficient d h b = rounded_between 110000000 270000000 10000000000 (pos coefficient *ℤ d) (lit< tt) (product_between coefficient most_coefficient 550000000 1350000000 d h b)

pub square_size : (u : ℤ) → ExpansionWithin u → Between 0 72900000000000000 (u *ℤ u)
square_size u b = square_between 270000000 u (size_most 270000000 110000000 270000000 u b (lit≤ tt) (lit≤ tt))

pub eight_squares_size : (u : ℤ) → ExpansionWithin u → Between 0 583200000000000000 (pos 8 *ℤ (u *ℤ u))
eight_squares_size u b = product_between 8 8 0 72900000000000000 (u *ℤ u) (lit≤ tt) (square_size u b)

pub curvature_size : (u : ℤ) → ExpansionWithin u → Between 0 58320000 (rounded (pos 8 *ℤ (u *ℤ u)) 10000000000)
curvature_size u b = rounded_between 0 58320000 10000000000 (pos 8 *ℤ (u *ℤ u)) (lit< tt) (eight_squares_size u b)

pub exponent_size : (u : ℤ) → ExpansionWithin u → ExponentWithin (exponent u)
unfolding exponent
exponent_size u b = wider 110000000 328320000 110000000 330000000 (u +ℤ rounded (pos 8 *ℤ (u *ℤ u)) 10000000000) (lit≤ tt) (lit≤ tt)
    (sum_between 110000000 270000000 0 58320000 u (rounded (pos 8 *ℤ (u *ℤ u)) 10000000000) b (curvature_size u b))

-- a correction so far, from 0.5 to 1.2
pub record Corrected (p : ℤ) : Type 0 where
  pub least : pos least_correction ≤ℤ p
  pub most : p ≤ℤ pos most_correction

pub step_product_size : (v p : ℤ) → ExponentWithin v → Corrected p → Between 132000000000000000 396000000000000000 (v *ℤ p)
step_product_size v (pos n) b h =
    let top : n ≤ 1200000000 = omega (arith, ints) in
    subst (λ (x : ℤ). Between 132000000000000000 396000000000000000 x) (*ℤ_comm (pos n) v) (product_between n 1200000000 110000000 330000000 v top b)
step_product_size v (negsuc n) b h = absurd (omega (arith, ints))

pub step_quotient_size : (v p : ℤ) (k : ℕ) → 0 < k → ExponentWithin v → Corrected p → Between 132000000 396000000 (rounded (v *ℤ p) (k * unit))
step_quotient_size v p k some b h =
    rounded_between 132000000 396000000 (k * unit) (v *ℤ p) (omega arith)
    (wider 132000000000000000 396000000000000000 (132000000 * (k * unit)) (396000000 * (k * unit)) (v *ℤ p) (omega arith) (omega arith) (step_product_size v p b h))

pub step_corrected : (v p : ℤ) (k : ℕ) → 0 < k → ExponentWithin v → Corrected p → Corrected (correction_step v k p)
step_corrected v p k some b h =
    let q = step_quotient_size v p k some b h in
    record { least = omega (arith, ints); most = omega (arith, ints) }

-- the step at k is the first of those that are left
pub step_first : (v p : ℤ) (k : ℕ) → 0 < k → correction_from v k p ≡ correction_from v (k - 1) (correction_step v k p)
step_first v p zero h = absurd (omega arith)
step_first v p (suc k) h = simp unary_clauses
