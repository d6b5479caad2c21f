use Rattle.std.proofs.Common.{◌-◌, ◌*◌, ◌≤◌, mul-le-mul, arith, lit<, rules}
use Rattle.working.specs.Limits.{most_mass}
use Rattle.working.specs.Steps.{plain_mass, mass_in_air}
use Rattle.working.proofs.Ranges.{quotient_most}
use Rattle.working.proofs.mass.mass.Goals as goal

pub returns-in-Plain : goal.returns-in-Plain
unfolding plain_mass
returns-in-Plain c =
    let top : c.from-r.result ≤ 2400 = omega arith in
    record {
      value = search rules;
      bound = quotient_most _ 20000 most_mass _ (lit< tt) (omega (arith, mul-le-mul c.requires.0 top)) c.rounded_quotient.ensures;
    }

pub returns-in-InAir : goal.returns-in-InAir
unfolding mass_in_air
returns-in-InAir c =
    let top : 5 * c.from-r.result - 11 ≤ 11989 = omega arith in
    record {
      value = search rules;
      bound = quotient_most _ 100000 most_mass _ (lit< tt) (omega (arith, mul-le-mul c.requires.0 top)) c.rounded_quotient-in-InAir.ensures;
    }
