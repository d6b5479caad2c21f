use Rattle.table_laws.proofs.Examined.{examination_laws}
use Rattle.table_laws.proofs.examination_keeps_its_laws.Goals as goal

pub returns : goal.returns
returns c = examination_laws
