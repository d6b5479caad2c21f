use Rattle.std.proofs.Common.{◌≡◌, ◌-◌, ◌<◌, get_or, take, set, None, sym, refl, ap, ◌∙◌, arith, length-set, get_or-take, rules}
use Rattle.std.proofs.Math.Seq.{take-set-lt}
use Rattle.std.proofs.lemmas.Int.{to_z-of_z}
use Rattle.probe.specs.declared.element.ProbeElement.{ProbeElement}
use Rattle.probe.specs.Elements.{heard, new_element}
use Rattle.probe.specs.Probes.{fitted_in, hear_refusal}
use Rattle.probe.proofs.Fitted.{entered, entries_right, right_set, state_of_right}
use Rattle.probe.proofs.probe.Probe.hear.Goals as goal
use Rattle.probe.proofs.probe.Probe.hear.Goals.{After-hear}

-- what is fitted after
changed : (c : goal.After-hear) → take c.args.self.now.fitted (set c.args.self.now.entries.list (c.args.number - 1) c.hear.new.self) ≡ set (fitted_in c.args.self.now) (c.args.number - 1) (heard (get_or (fitted_in c.args.self.now) (c.args.number - 1) (new_element 0)) c.args.hundredths)
changed c =
    let p = c.args.self.now in
    let k = c.args.number - 1 in
    let inside : k < p.fitted = omega arith in
    let same = get_or-take p.fitted p.entries.list k (new_element 0) inside in
    let f = c.ranges.hundredths in
    let fresh : c.hear.new.self ≡ heard (get_or p.entries.list k (new_element 0)) c.args.hundredths = simp to_z-of_z at c.hear.ensures in
    take-set-lt p.fitted p.entries.list k c.hear.new.self inside ∙ ap (set (fitted_in p) k) (fresh ∙ ap (λ (e : ProbeElement). heard e c.args.hundredths) (sym same))

pub invariant_of-self : goal.invariant_of-self
invariant_of-self c =
    let p = c.args.self.now in
    let held = entered p in
    let k = c.args.number - 1 in
    let now = heard (get_or (fitted_in p) k (new_element 0)) c.args.hundredths in
    record {
      right = entries_right (set p.entries.list k c.hear.new.self) p.fitted (length-set p.entries.list k c.hear.new.self ∙ held.all) held.few
          (rw changed (right_set 0 (fitted_in p) k now (new_element 0) held.standing refl (state_of_right c.args.hundredths)));
    }

pub returns-clause-after : goal.returns-clause-after
returns-clause-after c =
    let there : hear_refusal (fitted_in c.args.self.now) c.args.number ≡ None = search rules in
    rw there (changed (goal.at.returns-clause-after c).After-hear)
