use Rattle.std.proofs.Common.{◌≡◌, pos, arith, rules, lit<, w64, SFits, to_z}
use Rattle.std.proofs.lemmas.Int.{ints, to_z-of_z}
use Rattle.working.specs.Limits.{most_coefficient}
use Rattle.working.specs.Steps.{expansion}
use Rattle.working.proofs.Ranges.{fits, product_between}
use Rattle.working.proofs.Sizes.{expansion_size}
use Rattle.working.proofs.correction.expansion.Goals as goal

pub returns : goal.returns
unfolding expansion
returns c =
    let k = c.args.coefficient in
    let d = c.args.offset.ten_millionths in
    let within = c.args.offset.within in
    let e : SFits w64 d = search rules in
    let f = fits (product_between k most_coefficient 550000000 1350000000 d c.requires within) (lit< tt) in
    let g : SFits w64 c.rounded_signed_quotient.result = search rules in
    let same : to_z w64 k ≡ pos k = omega (arith, ints) in
    let value : c.rounded_signed_quotient.result ≡ expansion k d = simp (to_z-of_z, same) at c.rounded_signed_quotient.ensures in
    simp to_z-of_z (record { value = value; within = rw value (expansion_size k d c.requires within) })
