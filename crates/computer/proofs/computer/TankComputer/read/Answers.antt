use Rattle.std.proofs.Common.{◌≡◌, ◌<◌, ◌≤◌, true, List, length, sym, ap, ◌∙◌, subst, arith, rules}
use Rattle.std.proofs.lemmas.Bool.{eqb-false}
use Rattle.measure.specs.Limits.{highest_level}
use Rattle.table_laws.proofs.Answers.{answer_laws}
use Rattle.working.specs.declared.element.CountingElement.{CountingElement}
use Rattle.working.specs.Averages.{liquid_right}
use Rattle.probe.specs.Counted.{counting}
use Rattle.probe.specs.Probes.{fitted_in}
use Rattle.probe.proofs.Fitted.{entered}
use Rattle.probe.proofs.Rising.{counting_rises}
use Rattle.computer.proofs.Observed.{rule_limits, liquid_made}
use Rattle.computer.proofs.computer.TankComputer.read.Goals as goal

pub invariant_of-liquid : goal.invariant_of-liquid
invariant_of-liquid g c =
    let held = c.self.inside in
    let level = c.in_ok-level.level in
    let es : List CountingElement = counting held.water level (fitted_in held.probe) in
    let same = c.counting-counting.ensures.elements in
    let first = ap (length {A = CountingElement}) (c.elements.ensures.value ∙ same) in
    let apart = eqb-false (length c.elements.result.now) 0 (sym c.if-is_empty.ensures) in
    let some : 0 < length es = omega (arith, first, apart) in
    let most : level ≤ highest_level = g.G.Gauge.meaning.laws.level_most held.gauge level (sym c.in_ok-level.ensures) in
    record {
      right = subst (λ (list : List CountingElement). liquid_right list held.water level ≡ true) (sym (c.elements-2.ensures.value ∙ same))
          (liquid_made es held.water level some c.if-water-level.false most (counting_rises held.water level (fitted_in held.probe) (entered held.probe).standing));
    }

pub invariant_of-observation : goal.invariant_of-observation
invariant_of-observation g c =
    let held = c.self.inside in
    let level = c.in_ok-level.level in
    let a = c.in_ok-at_level.at_level in
    let b = c.in_ok-at_water.at_water in
    let laws = answer_laws g.T.CapacityTable.meaning in
    let at_level = sym c.in_ok-at_level.ensures in
    let at_water = sym c.in_ok-at_water.ensures in
    let dry : held.water ≤ level = omega (arith, c.if-water-level.false) in
    let rule = rule_limits g.P.ProductRule.meaning held.rule c.in_ok-density.density c.in_ok-coefficient.coefficient (sym c.in_ok-coefficient.ensures) in
    record {
      limits = (
        (laws.most held.survey.table level a at_level, laws.never_falls held.survey.table held.water level b a dry at_water at_level),
        (c.self.invariant.shell_is_within, rule.coefficient_most),
        (rule.density_least, rule.density_most),
      );
    }

pub returns-clause-answer : goal.returns-clause-answer
returns-clause-answer g c = rw (← c.self.view_is) (search rules, search rules)
