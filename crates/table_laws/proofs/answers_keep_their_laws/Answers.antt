use Rattle.table_laws.proofs.Answers.{answer_laws}
use Rattle.table_laws.proofs.answers_keep_their_laws.Goals as goal

pub returns : goal.returns
returns g c = answer_laws g.T.CapacityTable.meaning
