use Rattle.computer.specs.Ledgers.{meanings}
use Rattle.history.proofs.Limits.{keeps_limits}
use Rattle.history.proofs.laws.histories_keep_their_limits.Goals as goal

pub returns : goal.returns
returns g c = keeps_limits (meanings g.G.Gauge.meaning g.T.CapacityTable.meaning g.P.ProductRule.meaning)
