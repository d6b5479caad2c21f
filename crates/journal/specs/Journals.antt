-- What a whole journal says: the entries of its lines, each in its place, with the numbers of the lines.
use Rattle.std.specs.Prelude.{◌≡◌, ℕ, ◌+◌, ◌-◌, ◌^◌, cond, List, [], ◌∷◌, length, Some, None, Ok, Err, vec_items, Option, Result, Vec, nat_le}
use Rattle.std.specs.declared.alloc.Global.{Global}
use Rattle.journal.specs.declared.entry.Entry.{Entry}
use Rattle.journal.specs.declared.place.Stage.{Stage}
use Rattle.journal.specs.declared.place.Stage.TheVariants.{Start}
use Rattle.journal.specs.declared.wrong.Wrong.{Wrong}
use Rattle.journal.specs.declared.reader.NumberedEntry.{NumberedEntry}
use Rattle.journal.specs.declared.reader.Fault.{Fault}
use Rattle.journal.specs.declared.reader.Fault.TheVariants.{NoMemory, TooLong, Line}
use Rattle.journal.specs.Entries.{entry_of, and_then}
use Rattle.journal.specs.Places.{placed}
use Rattle.journal.specs.Words.{lines_of, without_return}

-- ---- one line

abbrev placed_entry : Stage → Option Entry → Result (Option Entry × Stage) Wrong
placed_entry stage None = Ok (None, stage)
placed_entry stage (Some entry) = and_then (placed stage entry) (λ after. Ok (Some entry, after))

-- the entry of a line, and the stage after it
abbrev pub placed_line : Stage → List ℕ → Result (Option Entry × Stage) Wrong
placed_line stage line = and_then (entry_of (without_return line)) (placed_entry stage)

-- ---- all lines

abbrev pub before : ℕ → Option Entry → Result (List NumberedEntry) Fault → Result (List NumberedEntry) Fault
before n None rest = rest
before n (Some entry) (Ok entries) = Ok (record { line = n; entry = entry } ∷ entries)
before n (Some entry) (Err fault) = Err fault

abbrev pub then_lines : ℕ → Result (Option Entry × Stage) Wrong → (Stage → Result (List NumberedEntry) Fault) → Result (List NumberedEntry) Fault
then_lines n (Err wrong) rest = Err (Line n wrong)
then_lines n (Ok (entry, after)) rest = before n entry (rest after)

-- the entries of the lines from number n on, or the first line that is wrong
abbrev pub entries_from : ℕ → Stage → List (List ℕ) → Result (List NumberedEntry) Fault
entries_from n stage [] = Ok []
entries_from n stage (line ∷ lines) = then_lines n (placed_line stage line) (λ after. entries_from (n + 1) after lines)

-- a journal has fewer bytes than this, so that its lines can be numbered in 32 bits
abbrev pub too_long : ℕ
too_long = 2 ^ 32 - 1

abbrev pub journal_of : List ℕ → Result (List NumberedEntry) Fault
journal_of text = cond (nat_le too_long (length text)) (Err TooLong) (entries_from 1 Start (lines_of text))

-- what was read is the journal, unless memory ran out
abbrev pub Reads : Result (Vec NumberedEntry Global) Fault → Result (List NumberedEntry) Fault → Type 0
Reads (Ok entries) journal = journal ≡ Ok (vec_items entries)
Reads (Err NoMemory) journal = Unit {0}
Reads (Err TooLong) journal = journal ≡ Err TooLong
Reads (Err (Line n wrong)) journal = journal ≡ Err (Line n wrong)
