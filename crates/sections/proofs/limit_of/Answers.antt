use Rattle.std.proofs.Common.{ℕ, Option, ap, ◌∙◌, rules}
use Rattle.std.proofs.lemmas.Iterator.{YieldsList-from_slice}
use Rattle.std.specs.Option.{unwrap_or}
use Rattle.measure.specs.Limits.{highest_level}
use Rattle.capacity.proofs.FindMap.{first_from_find_map}
use Rattle.journal.specs.declared.reader.NumberedEntry.{NumberedEntry}
use Rattle.sections.specs.Sections.{limit_of}
use Rattle.sections.proofs.FirstHeight.{first_in}
use Rattle.sections.proofs.limit_of.Goals as goal

pub returns : goal.returns
returns c =
    let height : NumberedEntry → Option ℕ = λ e. limit_of e.entry in
    let found = first_from_find_map height (YieldsList-from_slice c.args.entries.now c.iter.ensures.rest) (λ x o q k. search rules) c.find_map.result c.find_map.ensures.runs in
    c.unwrap_or.ensures ∙ ap (λ (h : Option ℕ). unwrap_or h highest_level) (found ∙ first_in height c.args.entries.now)
