use Rattle.std.proofs.Common.{◌≡◌, Some, sym, ◌∙◌, rules}
use Rattle.product.proofs.LineValues.{found_limits, found_answer}
use Rattle.product.specs.Lines.{line_for}
use Rattle.product.proofs.api.answer.ApiRuleProductRule.coefficient.Goals as goal
use Rattle.product.proofs.api.answer.ApiRuleProductRule.coefficient.Goals.{After-from-r}

found : (c : goal.After-from-r) → line_for c.args.self.now c.args.density ≡ Some c.in_ok-line.line
found c =
    let taken : c.line_for.result ≡ Some c.in_ok-line.line = search rules in
    sym c.line_for.ensures ∙ taken

pub numerator-requires : goal.numerator-requires
numerator-requires c =
    let limits = found_limits c.args.self.now _ _ _ (found (goal.at.numerator-requires c).After-from-r) c.from-r.ensures in
    (limits.0, limits.1)

pub returns : goal.returns
returns c = found_answer c.args.self.now _ _ _ _ _ (found (goal.at.returns c).After-from-r) c.from-r.ensures c.numerator.ensures c.rounded_quotient.ensures
