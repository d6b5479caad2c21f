use Rattle.std.proofs.Common.{◌≡◌, codes, arith, rules}
use Rattle.std.proofs.lemmas.Slice.Eq.{text_from_reads}
use Rattle.journal.proofs.entry.Line.shaped_survey.Goals as goal

pub returns-in-strapped : goal.returns-in-strapped
returns-in-strapped c =
    let spelled : c.args.shape.now ≡ codes "strapped" = text_from_reads _ _ (omega arith) (search rules) in
    rw spelled (search rules)

pub returns-in-upright : goal.returns-in-upright
returns-in-upright c =
    let spelled : c.args.shape.now ≡ codes "upright" = text_from_reads _ _ (omega arith) (search rules) in
    rw spelled (search rules)
