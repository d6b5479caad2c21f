use Rattle.std.proofs.Common.{◌+◌, ◌/◌, pos, sym, ap, mod-lt, arith}
use native.Mathlib.Nat.{div-add-mod}
use Rattle.measure.proofs.Nearest.{nearest_is}
use Rattle.measure.proofs.rounding.rounded_quotient.Goals as goal

pub returns-then-rest-d : goal.returns-then-rest-d
returns-then-rest-d c =
    let n = c.args.n in
    let d = c.args.d in
    let split = div-add-mod n d in
    let rest = mod-lt n c.requires in
    ap pos (sym (nearest_is n d (n / d + 1) c.requires (omega arith) (omega arith)))

pub returns-else-rest-d : goal.returns-else-rest-d
returns-else-rest-d c =
    let n = c.args.n in
    let d = c.args.d in
    let split = div-add-mod n d in
    let rest = mod-lt n c.requires in
    ap pos (sym (nearest_is n d (n / d) c.requires (omega arith) (omega arith)))
