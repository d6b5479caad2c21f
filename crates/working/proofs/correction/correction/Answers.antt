use Rattle.std.proofs.Common.{◌≡◌, ◌-◌, ℤ, pos, ◌-ℤ◌, sym, ap, ◌∙◌, subst, arith, rules, lit<, w64, SFits}
use Rattle.std.proofs.lemmas.Int.{ints, to_z-of_z}
use Rattle.working.specs.Steps.{unit, correction, correction_step, correction_from}
use Rattle.working.proofs.Ranges.{fits}
use Rattle.working.proofs.Sizes.{Corrected, step_product_size, step_corrected, step_first}
use Rattle.working.proofs.correction.correction.Goals as goal
use Rattle.working.proofs.correction.correction.Goals.{After-rounded_signed_quotient}

pub loop-k-init : goal.loop-k-init
unfolding correction
loop-k-init c =
    let f = c.ranges.v in
    (simp to_z-of_z, record { least = omega (arith, ints); most = omega (arith, ints) })

record Stepped (c : goal.After-rounded_signed_quotient) : Type 0 where
  value : pos unit -ℤ c.rounded_signed_quotient.result ≡ correction_step c.args.v c.loop-k.k c.loop-k.p
  size : Corrected (pos unit -ℤ c.rounded_signed_quotient.result)

stepped : (c : goal.After-rounded_signed_quotient) → Stepped c
stepped c =
    let v = c.args.v in
    let k = c.loop-k.k in
    let same = c.loop-k.p-is in
    let so_far : Corrected c.loop-k.p = subst (λ (x : ℤ). Corrected x) same c.loop-k.invariant.1 in
    let e = c.ranges.v in
    let f = fits (step_product_size v c.loop-k.p c.requires so_far) (lit< tt) in
    let value : pos unit -ℤ c.rounded_signed_quotient.result ≡ correction_step v k c.loop-k.p = ap (λ (x : ℤ). pos unit -ℤ x) (simp (to_z-of_z, same) at c.rounded_signed_quotient.ensures) in
    record { value = value; size = rw value (step_corrected v c.loop-k.p k (omega (arith, c.loop-k-test.true)) c.requires so_far) }

pub overflow_sub-p : goal.overflow_sub-p
overflow_sub-p c =
    let s = (stepped c).size in
    omega (arith, ints)

pub loop-k-preserved : goal.loop-k-preserved
loop-k-preserved c =
    let v = c.args.v in
    let p = c.loop-k.p in
    let s = stepped c in
    let size = s.size in
    let e = c.ranges.v in
    let f : SFits w64 c.rounded_signed_quotient.result = search rules in
    let g : SFits w64 (pos unit -ℤ c.rounded_signed_quotient.result) = omega (arith, ints) in
    let same = c.loop-k.p-is in
    let left : correction_from v c.loop-k.k p ≡ correction v = simp (to_z-of_z, same) at c.loop-k.invariant.0 in
    let fewer : correction_from v (c.loop-k.k - 1) (pos unit -ℤ c.rounded_signed_quotient.result) ≡ correction v =
    rw s.value (sym (step_first v p c.loop-k.k (omega (arith, c.loop-k-test.true))) ∙ left) in
    (simp to_z-of_z fewer, simp to_z-of_z size)
