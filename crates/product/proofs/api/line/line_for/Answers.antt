use Rattle.std.proofs.Common.{◌∙◌, rules, tests}
use Rattle.std.proofs.lemmas.Iterator.{YieldsList-from_slice}
use Rattle.std.proofs.lemmas.Iterator.Search.{find_from_yields_List}
use Rattle.product.specs.Lines.{lines, covers}
use Rattle.product.proofs.api.line.line_for.Goals as goal

pub returns : goal.returns
returns c =
    c.copied.ensures
    ∙ find_from_yields_List (covers c.args.rule c.args.density) _ _ _ c.find.ensures.ran (YieldsList-from_slice lines cc) (λ x b q k. search (rules, tests))
