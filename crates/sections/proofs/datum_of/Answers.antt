use Rattle.std.proofs.Common.{ℕ, Option, ap, ◌∙◌, rules}
use Rattle.std.proofs.lemmas.Iterator.{YieldsList-from_slice}
use Rattle.std.specs.Option.{unwrap_or}
use Rattle.capacity.proofs.FindMap.{first_from_find_map}
use Rattle.journal.specs.declared.reader.NumberedEntry.{NumberedEntry}
use Rattle.sections.specs.Sections.{datum_of}
use Rattle.sections.proofs.FirstHeight.{first_in}
use Rattle.sections.proofs.datum_of.Goals as goal

pub returns : goal.returns
returns c =
    let height : NumberedEntry → Option ℕ = λ e. datum_of e.entry in
    let found = first_from_find_map height (YieldsList-from_slice c.args.entries.now c.iter.ensures.rest) (λ x o q k. search rules) c.find_map.result c.find_map.ensures.runs in
    c.unwrap_or.ensures ∙ ap (λ (h : Option ℕ). unwrap_or h 0) (found ∙ first_in height c.args.entries.now)
