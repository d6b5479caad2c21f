-- How a journal line falls into words, and what number a word writes.
use Rattle.std.specs.Prelude.{◌≡◌, ℕ, ◌+◌, ◌-◌, ◌*◌, ◌^◌, ◌<◌, Bool, cond, not, ◌&&◌, ◌||◌, List, [], ◌∷◌, length, take, drop, MatchOption, Some, None, Option, ◌==◌, nat_le, nat_lt}
use Rattle.std.specs.Borrow.{Bor}
use Rattle.std.specs.List.{position_or_len, before_first, slice_split}
use Rattle.std.specs.Str.Lines.{strip_carriage_return}

-- ---- bytes

abbrev space : ℕ
space = 32

abbrev tab : ℕ
tab = 9

abbrev pub newline : ℕ
newline = 10

abbrev number_sign : ℕ
number_sign = 35

abbrev digit_zero : ℕ
digit_zero = 48

abbrev pub is_blank : ℕ → Bool
is_blank b = b == space || b == tab

-- the first n bytes of a text, and the rest
abbrev pub CutAt : List ℕ → ℕ → List ℕ → List ℕ → Type 0
CutAt text n front rest = (front ≡ take n text) × (rest ≡ drop n text)

-- ---- lines

-- what stands before, between and after the newlines of a text
abbrev pub lines_of : List ℕ → List (List ℕ)
lines_of text = slice_split (λ b. b == newline) text

-- a line may end in a carriage return, which is no part of it
abbrev pub without_return : List ℕ → List ℕ
without_return line = strip_carriage_return line

-- ---- words

abbrev pub before_comment : List ℕ → List ℕ
before_comment line = before_first (λ b. b == number_sign) line

abbrev pub past_blanks : List ℕ → List ℕ
past_blanks text = drop (position_or_len (λ b. not (is_blank b)) text) text

-- the first word of a text, empty where there is none, and what follows it
abbrev pub next_word : List ℕ → List ℕ
next_word text = before_first is_blank (past_blanks text)

abbrev pub after_word : List ℕ → List ℕ
after_word text = drop (position_or_len is_blank (past_blanks text)) (past_blanks text)

-- taking the next word of a text gives this word, or none, and leaves this rest
abbrev pub GivesNextWord : List ℕ → Option (Bor (List ℕ)) → List ℕ → Type 0
GivesNextWord text word rest = MatchOption word (next_word text ≡ []) (λ w. (w.now ≡ next_word text) × (0 < length w.now)) × (rest ≡ after_word text)

-- ---- numbers

-- the number that digits write after those that wrote n, or none: another byte, or a number of 2^32 and more
abbrev pub decimal_after : ℕ → List ℕ → Option ℕ
decimal_after n [] = Some n
decimal_after n (b ∷ bs) =
    cond (nat_le digit_zero b && nat_lt b (digit_zero + 10) && nat_lt (10 * n + (b - digit_zero)) (2 ^ 32))
    (decimal_after (10 * n + (b - digit_zero)) bs)
    None

abbrev pub decimal : List ℕ → Option ℕ
decimal [] = None
decimal (b ∷ bs) = decimal_after 0 (b ∷ bs)
