use Rattle.std.proofs.Common.{◌*◌, lit<}
use Rattle.working.specs.Steps.{scaled, unit}
use Rattle.working.proofs.Ranges.{quotient_most}
use Rattle.working.proofs.volume.scaled.Goals as goal

pub returns : goal.returns
unfolding scaled
returns c = record {
  value = c.rounded_quotient.ensures;
  bound = λ most most_is. quotient_most (c.args.volume * c.args.factor) unit most c.rounded_quotient.result (lit< tt) most_is c.rounded_quotient.ensures;
}
