use Rattle.working.proofs.Averaged.{average_laws}
use Rattle.working.proofs.liquid.average.averages_keep_their_laws.Goals as goal

pub returns : goal.returns
returns c = average_laws
