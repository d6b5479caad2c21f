use Rattle.std.proofs.Common.{◌≡◌, ◌+◌, ◌≤◌, length, eqb, List, [], ◌∷◌, ◌++◌, vec_items, MatchOption, Ok, sym, ap, ◌∙◌, length-append, rules, arith}
use Rattle.std.proofs.lemmas.Iterator.Consumers.{YieldsList-at, YieldsList-from_enumerate}
use Rattle.std.proofs.lemmas.Iterator.Splits.{YieldsList-from_slice_split}
use Rattle.std.proofs.lemmas.Option.{MatchOption-at_none, MatchOption-at_some}
use Rattle.std.proofs.lemmas.Result.{err_from_is_err_and}
use Rattle.journal.specs.declared.reader.Fault.TheVariants.{Line}
use Rattle.journal.specs.declared.reader.NumberedEntry.{NumberedEntry}
use Rattle.journal.specs.Journals.{placed_line}
use Rattle.journal.specs.Words.{newline, lines_of}
use Rattle.journal.proofs.Lines.{err_before, IsNextLine, next_line, Gathered, with_entry, one_read, one_wrong, all_read}
use Rattle.journal.proofs.reader.read_journal.Goals as goal
use Rattle.journal.proofs.reader.read_journal.Goals.{After-next, After-place_line, In_ok-entry}

-- what `next` gave is the line after those that were read
given : (c : After-next) → MatchOption c.next.result (length (lines_of c.args.text.now) ≤ length c.loop-i.yielded) (λ p. IsNextLine c.args.text.now (length c.loop-i.yielded) p.0 p.1.now)
given c =
    next_line c.args.text.now
    (YieldsList-at c.into_iter-i-iterator.ensures.into_iter_gives (YieldsList-from_enumerate
    (YieldsList-at c.enumerate-i-items.ensures.source (YieldsList-from_slice_split _ (λ b. eqb b newline) c.args.text.now c.split.ensures.rest c.split.ensures.done c.split.ensures.closure (λ x b q k. search rules)))
    c.enumerate-i-items.ensures.count))
    c.loop-i.yielded _ c.loop-i.yielded_by c.next.result c.next.new.self c.next.ensures.steps

at_hand : (c : After-place_line) → IsNextLine c.args.text.now (length c.loop-i.yielded) c.in-Some.i c.in-Some.bytes.now
at_hand c = MatchOption-at_some _ _ (c.in-Some.i, c.in-Some.bytes) c.in-Some.is (given (goal.at.After-place_line c).After-next)

pub returns-in_err-entry : goal.returns-in_err-entry
returns-in_err-entry c =
    let p = err_from_is_err_and c.from_residual.result c.from_residual.ensures.1 in
    let failed = err_before _ c.place_line.result c.map_err.result c.in_err-entry.field-0.0 c.map_err.ensures.cases c.in_err-entry.was in
    let said : c.in_err-entry.field-0.0 ≡ Line (c.in-Some.i + 1) failed.0 = search rules in
    rw (p.1, p.2, said)
    (one_wrong c.args.text.now _ c.loop-i.stage (vec_items c.loop-i.entries) c.loop-i.invariant.gathered _ _ (at_hand (goal.at.returns-in_err-entry c).After-place_line) failed.0 (sym c.place_line.ensures ∙ failed.1) (omega arith))

-- the line at hand is read, and adds its entry to those that were gathered
gathered : (c : In_ok-entry) (entries : List NumberedEntry) → with_entry (vec_items c.loop-i.entries) (c.in-Some.i + 1) c.in_ok-entry.entry ≡ entries
    → Gathered c.args.text.now (length (c.loop-i.yielded ++ (c.in-Some.i, c.in-Some.bytes) ∷ [])) c.in_ok-entry.next entries
gathered c entries e =
    let placed : placed_line c.loop-i.stage c.in-Some.bytes.now ≡ Ok (c.in_ok-entry.entry, c.in_ok-entry.next) = search rules in
    rw (length-append, ← e) (one_read c.args.text.now _ c.loop-i.stage (vec_items c.loop-i.entries) c.loop-i.invariant.gathered _ _ (at_hand (goal.at.In_ok-entry c).After-place_line) _ _ placed)

pub loop-i-preserved-in_ok-push : goal.loop-i-preserved-in_ok-push
loop-i-preserved-in_ok-push c = record {
  can_next = search rules;
  is_finite = search rules;
  gathered = gathered (goal.at.loop-i-preserved-in_ok-push c).In_ok-entry _ (ap (with_entry (vec_items c.loop-i.entries) (c.in-Some.i + 1)) c.in-Some-entry.is ∙ sym c.in_ok-push.ensures.items);
}

pub loop-i-preserved : goal.loop-i-preserved
loop-i-preserved c = record {
  can_next = search rules;
  is_finite = search rules;
  gathered = gathered (goal.at.loop-i-preserved c).In_ok-entry _ (ap (with_entry (vec_items c.loop-i.entries) (c.in-Some.i + 1)) c.in_default.is);
}

pub returns : goal.returns
returns c =
    let ended = MatchOption-at_none _ _ c.in-None.is (given (goal.at.returns c).After-next) in
    all_read c.args.text.now _ c.loop-i.stage (vec_items c.loop-i.entries) c.loop-i.invariant.gathered ended (omega arith)
