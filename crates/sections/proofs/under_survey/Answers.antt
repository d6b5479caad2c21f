use Rattle.std.proofs.Common.{ℕ, length, Option, ap, ◌∙◌, rules}
use Rattle.std.proofs.lemmas.Iterator.{YieldsList-from_slice}
use Rattle.std.proofs.lemmas.Iterator.Search.{position_from_yields_List}
use Rattle.std.specs.Option.{unwrap_or}
use Rattle.sections.specs.Sections.{begins_survey}
use Rattle.sections.proofs.under_survey.Goals as goal

pub returns-clause-value : goal.returns-clause-value
returns-clause-value c =
    let found = position_from_yields_List (λ e. begins_survey e.entry) _ _ c.position.result c.position.ensures.ran (YieldsList-from_slice c.args.entries.now c.iter.ensures.rest) (λ x b q k. search rules) in
    c.unwrap_or.ensures ∙ ap (λ (found : Option ℕ). unwrap_or found (length c.args.entries.now)) found
