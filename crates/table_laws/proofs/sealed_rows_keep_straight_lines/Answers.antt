use Rattle.table_laws.proofs.Lines.{straight_lines}
use Rattle.table_laws.proofs.sealed_rows_keep_straight_lines.Goals as goal

pub returns : goal.returns
returns c = straight_lines
