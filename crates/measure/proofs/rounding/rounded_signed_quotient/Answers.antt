use Rattle.std.proofs.Common.{◌≡◌, ℕ, ◌≤◌, pos, nat_abs, ◌≤ℤ◌, ◌<ℤ◌, ap, ◌∙◌, arith}
use borrow.Author.Differences.{ints}
use Rattle.std.proofs.lemmas.Int.{to_z-of_z}
use Rattle.measure.specs.Rounding.{nearest}
use Rattle.measure.proofs.Rounds.{nearest_size, rounded_above, rounded_below}
use Rattle.measure.proofs.rounding.rounded_signed_quotient.Goals as goal
use Rattle.measure.proofs.rounding.rounded_signed_quotient.Goals.{After-rounded_quotient-size}

-- the size that was rounded, and how large it is
size : (c : goal.After-rounded_quotient-size) → (c.rounded_quotient-size.result ≡ nearest (nat_abs c.args.a) c.args.d) × (c.rounded_quotient-size.result ≤ nat_abs c.args.a)
size c =
    let f = c.ranges.a in
    let abs : c.unsigned_abs.result ≡ nat_abs c.args.a = simp to_z-of_z at c.unsigned_abs.ensures.value in
    let value : c.rounded_quotient-size.result ≡ nearest (nat_abs c.args.a) c.args.d = ap nat_abs c.rounded_quotient-size.ensures ∙ ap (λ (n : ℕ). nearest n c.args.d) abs in
    (value, omega (arith, value, nearest_size (nat_abs c.args.a) c.args.d c.requires))

pub overflow_cast-result : goal.overflow_cast-result
overflow_cast-result c =
    let f = c.ranges.a in
    let s = size (goal.at.overflow_cast-result c).After-rounded_quotient-size in
    omega (arith, ints, s.1)

pub returns-then-a-ge0 : goal.returns-then-a-ge0
returns-then-a-ge0 c =
    let f = c.ranges.a in
    let s = size (goal.at.returns-then-a-ge0 c).After-rounded_quotient-size in
    let above : pos 0 ≤ℤ c.args.a = omega (arith, ints) in
    let is = rounded_above c.args.a c.args.d above in
    omega (arith, ints, is, s.0, s.1)

pub overflow_cast-result-2 : goal.overflow_cast-result-2
overflow_cast-result-2 c =
    let f = c.ranges.a in
    let s = size (goal.at.overflow_cast-result-2 c).After-rounded_quotient-size in
    omega (arith, ints, s.1)

pub returns : goal.returns
returns c =
    let f = c.ranges.a in
    let s = size (goal.at.returns c).After-rounded_quotient-size in
    let below : c.args.a <ℤ pos 0 = omega (arith, ints) in
    let is = rounded_below c.args.a c.args.d below in
    omega (arith, ints, is, s.0, s.1)
