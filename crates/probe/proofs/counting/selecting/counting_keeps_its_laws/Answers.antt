use Rattle.probe.proofs.Words.{counting_laws}
use Rattle.probe.proofs.counting.selecting.counting_keeps_its_laws.Goals as goal

pub returns : goal.returns
returns c = counting_laws
