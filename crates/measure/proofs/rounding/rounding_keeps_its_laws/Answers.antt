use Rattle.measure.proofs.Rounds.{rounding_laws, fraction_rounding}
use Rattle.measure.proofs.rounding.rounding_keeps_its_laws.Goals as goal

pub returns : goal.returns
returns c = record { quotients = rounding_laws; fractions = fraction_rounding }
