use Rattle.gauge.proofs.GateHistories.{gate_laws, follows}
use Rattle.gauge.proofs.laws.gates_keep_their_laws.Goals as goal

pub returns : goal.returns
returns g c = record { follows = λ gate samples. follows g.G.Gauge.meaning gate samples; laws = gate_laws }
