use Rattle.std.proofs.Common.{◌+◌, ◌<◌, ◌≤◌, length, set, ◌∙◌, arith, length-set, rules}
use Rattle.std.proofs.lemmas.List.{take_more_set}
use Rattle.measure.specs.Limits.{highest_level}
use Rattle.probe.specs.Elements.{lowest_free, new_element}
use Rattle.probe.specs.Probes.{fitted_in}
use Rattle.probe.proofs.Fitted.{entered, entries_right, right_push}
use Rattle.probe.proofs.probe.Probe.fit.Goals as goal

pub invariant_of-self : goal.invariant_of-self
invariant_of-self c =
    let p = c.args.self.now in
    let height = c.args.height in
    let held = entered p in
    let room : p.fitted < length p.entries.list = omega (arith, held.all) in
    let low : lowest_free (fitted_in p) ≤ height = search rules in
    let high : height ≤ highest_level = search rules in
    let now = take_more_set p.entries.list p.fitted (new_element height) room in
    record {
      right = entries_right (set p.entries.list p.fitted (new_element height)) (p.fitted + 1) (length-set p.entries.list p.fitted (new_element height) ∙ held.all) (omega arith)
          (rw now (right_push 0 height (fitted_in p) held.standing (omega arith) low high));
    }
