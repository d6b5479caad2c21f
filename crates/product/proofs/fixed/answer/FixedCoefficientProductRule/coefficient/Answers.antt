use Rattle.std.proofs.Common.{◌≡◌, ◌*◌, sym, arith}
use Rattle.std.proofs.lemmas.Bool.Decides.{nat_tests}
use Rattle.measure.specs.Fractions.{natural, ◌⊗◌}
use Rattle.product.specs.FixedRules.{fixed_coefficient}
use Rattle.product.specs.Rules.{million_millionths}
use Rattle.product.proofs.Rounded.{rounded_whole}
use Rattle.product.proofs.fixed.answer.FixedCoefficientProductRule.coefficient.Goals as goal

pub returns : goal.returns
returns c =
    let a = fixed_coefficient c.args.self.now c.args.density in
    let same = c.from.ensures in
    let value : 100000 * c.from.result ≡ million_millionths a = sym (rounded_whole (natural 1000000000000 ⊗ a) (100000 * c.from.result) (omega arith)) in
    grind (arith, nat_tests, value)
