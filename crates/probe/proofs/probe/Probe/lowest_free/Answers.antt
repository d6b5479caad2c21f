use Rattle.std.proofs.Common.{◌≡◌, ◌+◌, ◌-◌, ◌<◌, ◌≤◌, length, get_or, Bor, Some, ap, ◌∙◌, arith, rules}
use Rattle.measure.specs.Limits.{highest_level}
use Rattle.probe.specs.declared.element.ProbeElement.{ProbeElement}
use Rattle.probe.specs.Elements.{lowest_free, new_element}
use Rattle.probe.proofs.Fitted.{entered, free_within, free_above, free_is}
use Rattle.probe.proofs.probe.Probe.lowest_free.Goals as goal

pub map_or-requires : goal.map_or-requires
map_or-requires c =
    let es = c.elements.result.now in
    let most = free_within 0 es (rw c.elements.ensures.value (entered c.args.self.now).standing) in
    let last_most : (x : Bor ProbeElement) → c.last.result ≡ Some x → x.now.height ≤ highest_level = λ x is.
    let item = rw is at c.last.ensures.item in
    omega (arith, free_above es x.now item.3.0 item.1, most) in
    search (rules, last_most)

pub returns : goal.returns
returns c =
    let es = c.elements.result.now in
    let some : 0 < length es → c.map_or.result ≡ (get_or es (length es - 1) (new_element 0)).height + 1 = λ h. search rules in
    let none : length es ≤ 0 → c.map_or.result ≡ 0 = λ h. search rules in
    free_is es c.map_or.result some none ∙ ap lowest_free c.elements.ensures.value
