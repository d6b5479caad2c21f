use Rattle.std.proofs.Common.{vec_items, sym, ◌∙◌}
use Rattle.std.proofs.lemmas.List.{nil_from_length}
use Rattle.std.specs.Vec.Iter.{into_iter_items}
use Rattle.computer.specs.Ledgers.{meanings}
use Rattle.history.proofs.Runs.{none_left}
use Rattle.history.proofs.run.serve_all.Goals as goal

pub returns : goal.returns
returns g c =
    let m = meanings g.G.Gauge.meaning g.T.CapacityTable.meaning g.P.ProductRule.meaning in
    let left = into_iter_items c.loop-call.call-iterator in
    let gone = nil_from_length left (sym c.loop-call.call-iterator.rest.ok.0 ∙ c.in-None.ensures.steps.0) in
    none_left m c.args.computer.now c.loop-call.computer (vec_items c.args.calls) left (vec_items c.loop-call.answers) c.loop-call.invariant gone
