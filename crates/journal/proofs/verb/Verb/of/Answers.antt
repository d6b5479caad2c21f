use Rattle.std.proofs.Common.{◌≡◌, codes, arith, rules}
use Rattle.std.proofs.lemmas.Slice.Eq.{text_from_reads}
use Rattle.journal.proofs.verb.Verb.of.Goals as goal

pub returns-in-survey : goal.returns-in-survey
returns-in-survey c =
    let spelled : c.args.word.now ≡ codes "survey" = text_from_reads _ _ (omega arith) (search rules) in
    rw spelled

pub returns-in-datum : goal.returns-in-datum
returns-in-datum c =
    let spelled : c.args.word.now ≡ codes "datum" = text_from_reads _ _ (omega arith) (search rules) in
    rw spelled

pub returns-in-limit : goal.returns-in-limit
returns-in-limit c =
    let spelled : c.args.word.now ≡ codes "limit" = text_from_reads _ _ (omega arith) (search rules) in
    rw spelled
