use Rattle.std.proofs.Common.{◌≡◌, ℤ, pos, ◌+ℤ◌, ◌*ℤ◌, ap, arith, rules, lit<, w64, SFits}
use Rattle.std.proofs.lemmas.Int.{ints, to_z-of_z}
use Rattle.measure.specs.Rounding.{rounded}
use Rattle.working.specs.Steps.{exponent}
use Rattle.working.proofs.Ranges.{fits}
use Rattle.working.proofs.Sizes.{square_size, eight_squares_size, curvature_size, exponent_size}
use Rattle.working.proofs.correction.exponent.Goals as goal
use Rattle.working.proofs.correction.exponent.Goals.{After-rounded_signed_quotient}

curved : (c : goal.After-rounded_signed_quotient) → c.rounded_signed_quotient.result ≡ rounded (pos 8 *ℤ (c.args.u *ℤ c.args.u)) 10000000000
curved c =
    let u = c.args.u in
    let e = c.ranges.u in
    let f = fits (square_size u c.requires) (lit< tt) in
    let g = fits (eight_squares_size u c.requires) (lit< tt) in
    simp to_z-of_z at c.rounded_signed_quotient.ensures

pub overflow_add-result : goal.overflow_add-result
overflow_add-result c =
    let same = curved c in
    let u = c.requires in
    let size = curvature_size c.args.u u in
    omega (arith, ints)

pub returns : goal.returns
unfolding exponent
returns c =
    let u = c.args.u in
    let size = exponent_size u c.requires in
    let value : u +ℤ c.rounded_signed_quotient.result ≡ exponent u = ap (λ (x : ℤ). u +ℤ x) (curved c) in
    let e = c.ranges.u in
    let f : SFits w64 c.rounded_signed_quotient.result = search rules in
    let g : SFits w64 (u +ℤ c.rounded_signed_quotient.result) = rw value (fits size (lit< tt)) in
    simp to_z-of_z (record { value = value; within = rw value size })
