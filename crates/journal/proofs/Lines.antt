-- What each line of a text adds to its journal.
use Rattle.std.proofs.Common.{◌≡◌, ℕ, ◌+◌, ◌<◌, ◌≤◌, leb, List, [], ◌∷◌, ◌++◌, length, get_or, drop, Some, None, Ok, Err, Option, Result, sym, refl, ap, ◌∙◌, append_assoc, append-nil, zero-add, Bor, MatchOption, MatchResult, arith}
use Rattle.std.proofs.lemmas.Bool.{cond-false, lt-leb}
use Rattle.std.proofs.lemmas.Iterator.{YieldsList}
use Rattle.std.proofs.lemmas.Iterator.Consumers.{YieldsList-turn, YieldsList-end}
use Rattle.std.proofs.lemmas.List.{at_drop_more, at_drop_all}
use Rattle.std.proofs.lemmas.List.FromFn.{length-enumerate_from, get_or-enumerate_from}
use Rattle.std.specs.Iterator.{Yields}
use Rattle.std.specs.List.{enumerate_from}
use Rattle.std.specs.Result.{IsErrAnd}
use Rattle.journal.specs.declared.entry.Entry.{Entry}
use Rattle.journal.specs.declared.place.Stage.{Stage}
use Rattle.journal.specs.declared.place.Stage.TheVariants.{Start}
use Rattle.journal.specs.declared.reader.Fault.{Fault}
use Rattle.journal.specs.declared.reader.Fault.TheVariants.{Line}
use Rattle.journal.specs.declared.wrong.Wrong.{Wrong}
use Rattle.journal.specs.declared.reader.NumberedEntry.{NumberedEntry}
use Rattle.journal.specs.Journals.{placed_line, then_lines, before, entries_from, journal_of}
use Rattle.journal.specs.Words.{lines_of}

-- the error that `map_err` was given
pub err_before : {X E D : Type 0} (P : E → D → Type 0) (r : Result X E) (q : Result X D) (d : D) → MatchResult r (λ x. q ≡ Ok x) (λ e. IsErrAnd q (P e)) → q ≡ Err d → (e : E) × (r ≡ Err e) × P e d
err_before P (Ok x) q d h e = absurd (cc)
err_before P (Err w) q d h e = (w, refl, rw e at h)

-- the journal that goes on after these entries
abbrev pub after_entries : List NumberedEntry → Result (List NumberedEntry) Fault → Result (List NumberedEntry) Fault
after_entries entries (Ok rest) = Ok (entries ++ rest)
after_entries entries (Err fault) = Err fault

abbrev pub with_entry : List NumberedEntry → ℕ → Option Entry → List NumberedEntry
with_entry entries n None = entries
with_entry entries n (Some entry) = entries ++ (record { line = n; entry = entry } ∷ [])

-- the first n lines of a text gave these entries and led to this stage
abbrev pub Gathered : List ℕ → ℕ → Stage → List NumberedEntry → Type 0
Gathered text n stage entries = entries_from 1 Start (lines_of text) ≡ after_entries entries (entries_from (n + 1) stage (drop n (lines_of text)))

-- the line that `enumerate` gives after n others
abbrev pub IsNextLine : List ℕ → ℕ → ℕ → List ℕ → Type 0
IsNextLine text n i line = (n < length (enumerate_from 0 (lines_of text))) × ((i, line) ≡ get_or (enumerate_from 0 (lines_of text)) n (i, line))

-- what `next` gives after n lines
pub next_line : {S : Type 0} {steps : S → Option (ℕ × Bor (List ℕ)) → S → Type 0} {s : S} (text : List ℕ) → YieldsList {B = ℕ × List ℕ} steps (λ p. (p.0, p.1.now)) s (enumerate_from 0 (lines_of text))
    → (xs : List (ℕ × Bor (List ℕ))) (t : S) → Yields steps s xs t → (r : Option (ℕ × Bor (List ℕ))) (u : S) → steps t r u
    → MatchOption r (length (lines_of text) ≤ length xs) (λ p. IsNextLine text (length xs) p.0 p.1.now)
next_line text road xs t yielded None u step =
    let ended = YieldsList-end road xs t yielded None u refl step in
    omega (arith, ended.1, length-enumerate_from 0 (lines_of text))
next_line text road xs t yielded (Some p) u step = YieldsList-turn road xs t yielded (Some p) u p refl step

cut_line : (text : List ℕ) (n i : ℕ) (line : List ℕ) → IsNextLine text n i line → (i ≡ n) × (drop n (lines_of text) ≡ line ∷ drop (n + 1) (lines_of text))
cut_line text n i line next =
    let lines = lines_of text in
    let within : n < length lines = omega (arith, next.0, length-enumerate_from 0 lines) in
    let is = next.1 ∙ get_or-enumerate_from 0 lines n (i, line) within in
    let cut = at_drop_more (λ (ls : List (List ℕ)). ls) lines n line within in (
      ap (λ (p : ℕ × List ℕ). p.0) is ∙ zero-add n,
      cut ∙ ap (λ (l : List ℕ). l ∷ drop (n + 1) lines) (sym (ap (λ (p : ℕ × List ℕ). p.1) is)),
    )

one_more : (entries : List NumberedEntry) (n : ℕ) (entry : Option Entry) (rest : Result (List NumberedEntry) Fault) → after_entries entries (before n entry rest) ≡ after_entries (with_entry entries n entry) rest
one_more entries n None rest = refl
one_more entries n (Some entry) (Ok rest) = simp append_assoc
one_more entries n (Some entry) (Err fault) = refl

no_more : (entries : List NumberedEntry) → after_entries entries (Ok []) ≡ Ok entries
no_more entries = simp append-nil

-- a text that is not too long is read line by line
read_lines : (text : List ℕ) → length text < 4294967295 → journal_of text ≡ entries_from 1 Start (lines_of text)
read_lines text short = cond-false (leb 4294967295 (length text)) _ _ (lt-leb 4294967295 (length text) short)

module _ (text : List ℕ) (n : ℕ) (stage : Stage) (entries : List NumberedEntry) (gathered : Gathered text n stage entries) where
  -- what the line at hand gives, and the lines after it
  at_hand : (i : ℕ) (line : List ℕ) → IsNextLine text n i line → (r : Result (Option Entry × Stage) Wrong) → placed_line stage line ≡ r
      → entries_from 1 Start (lines_of text) ≡ after_entries entries (then_lines (i + 1) r (λ s. entries_from (n + 1 + 1) s (drop (n + 1) (lines_of text))))
  at_hand i line next r placed =
      let rest : Stage → Result (List NumberedEntry) Fault = λ s. entries_from (n + 1 + 1) s (drop (n + 1) (lines_of text)) in
      let cut = cut_line text n i line next in
      gathered
      ∙ ap (λ (ls : List (List ℕ)). after_entries entries (entries_from (n + 1) stage ls)) cut.1
      ∙ ap (λ (q : Result (Option Entry × Stage) Wrong). after_entries entries (then_lines (n + 1) q rest)) placed
      ∙ ap (λ (k : ℕ). after_entries entries (then_lines (k + 1) r rest)) (sym cut.0)

  -- the line at hand is read
  pub one_read : (i : ℕ) (line : List ℕ) → IsNextLine text n i line → (entry : Option Entry) (after : Stage) → placed_line stage line ≡ Ok (entry, after)
      → Gathered text (n + 1) after (with_entry entries (i + 1) entry)
  one_read i line next entry after placed =
      at_hand i line next (Ok (entry, after)) placed ∙ one_more entries (i + 1) entry (entries_from (n + 1 + 1) after (drop (n + 1) (lines_of text)))

  -- the line at hand is wrong
  pub one_wrong : (i : ℕ) (line : List ℕ) → IsNextLine text n i line → (wrong : Wrong) → placed_line stage line ≡ Err wrong → length text < 4294967295
      → journal_of text ≡ Err (Line (i + 1) wrong)
  one_wrong i line next wrong placed short = read_lines text short ∙ at_hand i line next (Err wrong) placed

  -- no line is left
  pub all_read : length (lines_of text) ≤ n → length text < 4294967295 → journal_of text ≡ Ok entries
  all_read ended short =
      read_lines text short ∙ gathered
      ∙ ap (after_entries entries) (at_drop_all (entries_from (n + 1) stage) (lines_of text) n ended)
      ∙ no_more entries
