-- What a journal line says.
use Rattle.std.specs.Prelude.{◌≡◌, ℕ, cond, List, [], ◌∷◌, Some, None, Ok, Err, codes, Option, Result}
use Rattle.std.specs.Option.{ok_or}
use Rattle.std.specs.Str.{bytes_eq}
use Rattle.journal.specs.declared.verb.Verb.{Verb}
use Rattle.journal.specs.declared.verb.Verb.TheVariants.{Survey, Row as RowVerb, Datum as DatumVerb, Limit as LimitVerb, Dip as DipVerb}
use Rattle.journal.specs.declared.wrong.Wrong.{Wrong}
use Rattle.journal.specs.declared.wrong.Wrong.TheVariants.{UnknownWord, UnknownShape, Missing, Number, Extra}
use Rattle.journal.specs.declared.entry.Entry.{Entry}
use Rattle.journal.specs.declared.entry.Entry.TheVariants.{Strapped, Upright, Row as RowEntry, Datum, Limit, Dip}
use Rattle.journal.specs.Words.{before_comment, next_word, after_word, decimal}

-- ---- the word that begins a line

abbrev pub verb_of : List ℕ → Option Verb
verb_of word =
    cond (bytes_eq word (codes "survey")) (Some Survey)
    (cond (bytes_eq word (codes "row")) (Some RowVerb)
    (cond (bytes_eq word (codes "datum")) (Some DatumVerb)
    (cond (bytes_eq word (codes "limit")) (Some LimitVerb)
    (cond (bytes_eq word (codes "dip")) (Some DipVerb) None))))

-- ---- the words after it

abbrev pub and_then : {X Y : Type 0} → Result X Wrong → (X → Result Y Wrong) → Result Y Wrong
and_then (Ok x) f = f x
and_then (Err e) f = Err e

-- a word that is to be a number
abbrev pub numbered : Verb → List ℕ → Result ℕ Wrong
numbered verb [] = Err (Missing verb)
numbered verb (b ∷ bs) = ok_or (decimal (b ∷ bs)) (Number verb)

-- no word may follow
abbrev pub ended : Verb → Entry → List ℕ → Result (Option Entry) Wrong
ended verb entry [] = Ok (Some entry)
ended verb entry (b ∷ bs) = Err (Extra verb)

-- what makes an entry of a number makes this one
abbrev pub Makes : (ℕ → Entry → Type 0) → (ℕ → Entry) → Type 0
Makes gives made = (n : ℕ) (entry : Entry) → gives n entry → entry ≡ made n

-- a number, and nothing more
abbrev pub number_entry : Verb → (ℕ → Entry) → List ℕ → Result (Option Entry) Wrong
number_entry verb made text =
    and_then (numbered verb (next_word text)) (λ n. ended verb (made n) (next_word (after_word text)))

-- HEIGHT LITRES
abbrev pub row_entry : Verb → List ℕ → Result (Option Entry) Wrong
row_entry verb text =
    and_then (numbered verb (next_word text)) (λ height.
    and_then (numbered verb (next_word (after_word text))) (λ litres.
    ended verb (RowEntry (record { height = height; litres = litres })) (next_word (after_word (after_word text)))))

-- HEIGHT LITRES-PER-METRE
abbrev pub upright_entry : Verb → ℕ → List ℕ → Result (Option Entry) Wrong
upright_entry verb date text =
    and_then (numbered verb (next_word text)) (λ height.
    and_then (numbered verb (next_word (after_word text))) (λ litres_per_metre.
    ended verb (Upright date height litres_per_metre) (next_word (after_word (after_word text)))))

abbrev pub shape_entry : Verb → ℕ → List ℕ → List ℕ → Result (Option Entry) Wrong
shape_entry verb date shape text =
    cond (bytes_eq shape (codes "strapped")) (ended verb (Strapped date) (next_word text))
    (cond (bytes_eq shape (codes "upright")) (upright_entry verb date text) (Err UnknownShape))

abbrev pub shaped_survey : Verb → ℕ → List ℕ → List ℕ → Result (Option Entry) Wrong
shaped_survey verb date [] text = Err (Missing verb)
shaped_survey verb date (b ∷ bs) text = shape_entry verb date (b ∷ bs) text

-- DATE strapped, or DATE upright HEIGHT LITRES-PER-METRE
abbrev pub survey_entry : Verb → List ℕ → Result (Option Entry) Wrong
survey_entry verb text =
    and_then (numbered verb (next_word text)) (λ date.
    shaped_survey verb date (next_word (after_word text)) (after_word (after_word text)))

abbrev pub verb_entry : Option Verb → List ℕ → Result (Option Entry) Wrong
verb_entry None text = Err UnknownWord
verb_entry (Some Survey) text = survey_entry Survey text
verb_entry (Some RowVerb) text = row_entry RowVerb text
verb_entry (Some DatumVerb) text = number_entry DatumVerb Datum text
verb_entry (Some LimitVerb) text = number_entry LimitVerb Limit text
verb_entry (Some DipVerb) text = number_entry DipVerb Dip text

abbrev pub word_entry : List ℕ → List ℕ → Result (Option Entry) Wrong
word_entry [] text = Ok None
word_entry (b ∷ bs) text = verb_entry (verb_of (b ∷ bs)) text

-- what a line says: nothing, where it holds only blanks and a comment
abbrev pub entry_of : List ℕ → Result (Option Entry) Wrong
entry_of line = word_entry (next_word (before_comment line)) (after_word (before_comment line))
