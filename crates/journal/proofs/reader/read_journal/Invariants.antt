use Rattle.std.proofs.Common.{length, vec_items}
use Rattle.journal.proofs.Lines.{Gathered}
use Rattle.journal.proofs.reader.read_journal.Given as goal

abbrev pub invariant-loop-i : goal.invariant-loop-i
invariant-loop-i l = record {
  can_next : (goal.iterator-loop-i).can_next l.i-iterator;
  is_finite : (goal.iterator-loop-i).is_finite l.i-iterator;
  gathered : Gathered l.text (length l.yielded) l.stage (vec_items l.entries);
}
