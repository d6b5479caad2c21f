use Rattle.measure.specs.FractionLaws.{fraction_laws}
use Rattle.measure.proofs.fractions.fractions_keep_their_laws.Goals as goal

pub returns : goal.returns
returns c = fraction_laws
