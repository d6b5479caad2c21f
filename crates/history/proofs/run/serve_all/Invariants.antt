use Rattle.std.proofs.Common.{vec_items}
use Rattle.std.specs.Vec.Iter.{into_iter_items}
use Rattle.computer.specs.Ledgers.{meanings}
use Rattle.history.proofs.Runs.{Served}
use Rattle.history.proofs.run.serve_all.Given as goal

abbrev pub invariant-loop-call : goal.invariant-loop-call
invariant-loop-call g l =
    let m = meanings g.G.Gauge.meaning g.T.CapacityTable.meaning g.P.ProductRule.meaning in
    Served m l.initial.computer l.computer (vec_items l.fn.calls) (into_iter_items l.call-iterator) (vec_items l.answers)
