-- The one place that looks into the definition of the rounding: which whole numbers it lies between.
use Rattle.std.proofs.Common.{◌≡◌, ℕ, ◌+◌, ◌*◌, ◌<◌, ◌≤◌, mod-lt, le_antisymm, arith}
use native.Mathlib.Nat.{div-add-mod}
use Rattle.std.proofs.lemmas.Nat.{div_below, le-div}
use Rattle.measure.specs.Rounding.{nearest}

-- it is the q with q − 1/2 ≤ n / d < q + 1/2
pub nearest_is : (n d q : ℕ) → 0 < d → q * (2 * d) ≤ 2 * n + d → 2 * n + d < (q + 1) * (2 * d) → nearest n d ≡ q
unfolding nearest
nearest_is n d q h low high =
    let two : 0 < 2 * d = omega arith in
    let top = div_below (2 * n + d) (2 * d) (q + 1) two high in
    le_antisymm (omega arith) (le-div q (2 * n + d) (2 * d) two low)

pub nearest_low : (n d : ℕ) → 0 < d → nearest n d * (2 * d) ≤ 2 * n + d
unfolding nearest
nearest_low n d h = omega (arith, div-add-mod (2 * n + d) (2 * d))

pub nearest_high : (n d : ℕ) → 0 < d → 2 * n + d < (nearest n d + 1) * (2 * d)
unfolding nearest
nearest_high n d h =
    let two : 0 < 2 * d = omega arith in
    omega (arith, div-add-mod (2 * n + d) (2 * d), mod-lt (2 * n + d) two)

-- no larger number keeps within the half
pub nearest_most : (n d q : ℕ) → 0 < d → q * (2 * d) ≤ 2 * n + d → q ≤ nearest n d
unfolding nearest
nearest_most n d q h low = let two : 0 < 2 * d = omega arith in le-div q (2 * n + d) (2 * d) two low
