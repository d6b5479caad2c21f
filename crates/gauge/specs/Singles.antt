-- The meaning of a single instrument.
use Rattle.std.specs.Prelude.{◌≡◌, ℕ, ◌+◌, ◌*◌, ◌≤◌, min, max, true, ◌&&◌, ◌||◌, pos, is_none, Some, None, Ok, Err, Option, Result, ◌==◌, nat_le, nat_lt, refl}
use Rattle.std.proofs.Common.{ap, arith}
use Rattle.std.proofs.Math.Bool.{Bool-set}
use mathlib.Core.HLevel.{is_prop→PathP}
use Rattle.std.proofs.lemmas.Bool.{and_parts, and_right, cond_both, cond-false, false≢true, leb-true}
use Rattle.measure.specs.Limits.{highest_level}
use Rattle.measure.specs.declared.refusal.Refusal.{Refusal}
use Rattle.measure.specs.declared.refusal.Cause.TheVariants.{FaultHeld, NothingHeard}
use Rattle.measure.specs.Refusals.{refusal}
use Rattle.gauge.specs.declared.sample.Signal.{Signal}
use Rattle.gauge.specs.declared.sample.Signal.TheVariants.{Level, Fault}
use Rattle.gauge.specs.declared.sample.Sample.{Sample}
use Rattle.gauge.specs.declared.single.SingleInstrument.{SingleInstrument}
use Rattle.gauge.specs.Samples.{first_wrong, signal_wrong, last_instrument}
use Rattle.gauge.specs.Heard.{heard_right, heard_after}
use Rattle.gauge.specs.Gauges.{GaugeMeaning, GaugeLaws}

-- 0 counts as 1, a number above 2 as 2
abbrev pub counted_number : ℕ → ℕ
counted_number n = min (max n 1) last_instrument

abbrev heard_says : ℕ → Option Signal → Result ℕ Refusal
heard_says number None = Err (refusal NothingHeard (pos number))
heard_says number (Some (Level level)) = Ok level
heard_says number (Some (Fault code)) = Err (refusal FaultHeld (pos (1000 * number + code)))

abbrev pub single_says : SingleInstrument → Result ℕ Refusal
single_says g = heard_says g.number g.heard

-- ---- what is heard stays within its limits

signal_right : (s : Sample) → is_none (first_wrong s) ≡ true → is_none (signal_wrong s.signal) ≡ true
signal_right s =
    cond_both (nat_lt s.instrument 1 || nat_lt last_instrument s.instrument) (Some s.instrument) (signal_wrong s.signal)
    (λ wrong. is_none wrong ≡ true → is_none (signal_wrong s.signal) ≡ true) (λ _ h. absurd (false≢true h)) (λ _ h. h)

pub right_after : (g : SingleInstrument) (s : Sample) → heard_right (heard_after g.number g.heard s) ≡ true
right_after g s =
    cond_both (s.instrument == g.number && is_none (first_wrong s)) (Some s.signal) g.heard (λ heard. heard_right heard ≡ true)
    (λ own. signal_right s (and_parts (s.instrument == g.number) (is_none (first_wrong s)) own).1) (λ _. g.right)

abbrev pub single_after : SingleInstrument → Sample → SingleInstrument
single_after g s = record { number = g.number; heard = heard_after g.number g.heard s; right = right_after g s }

-- ---- the laws

-- instruments with one number that heard the same are the same
pub same_single : (g h : SingleInstrument) → g.number ≡ h.number → g.heard ≡ h.heard → g ≡ h
same_single g h p q = λ i. record {
  number = p i;
  heard = q i;
  right = is_prop→PathP (λ j. heard_right (q j) ≡ true) (λ j. Bool-set (heard_right (q j)) true) g.right h.right i;
}

level_right : (level : ℕ) → is_none (signal_wrong (Level level)) ≡ true → level ≤ highest_level
level_right level =
    cond_both (nat_le level highest_level) None (Some level) (λ wrong. is_none wrong ≡ true → level ≤ highest_level)
    (λ within _. leb-true level highest_level within) (λ _ h. absurd (false≢true h))

level_most : (number : ℕ) (heard : Option Signal) (level : ℕ) → heard_right heard ≡ true → heard_says number heard ≡ Ok level → level ≤ highest_level
level_most number None level right e = absurd cc
level_most number (Some (Level l)) level right e = let same : l ≡ level = cc in let most = level_right l right in omega arith
level_most number (Some (Fault c)) level right e = absurd cc

stays : (g : SingleInstrument) (s : Sample) (n : ℕ) → first_wrong s ≡ Some n → single_after g s ≡ g
stays g s n e =
    same_single (single_after g s) g refl
    (cond-false (s.instrument == g.number && is_none (first_wrong s)) (Some s.signal) g.heard
    (and_right (s.instrument == g.number) (is_none (first_wrong s)) (ap is_none e)))

pub single_laws : GaugeLaws single_says single_after
single_laws = record { level_most = λ g level. level_most g.number g.heard level g.right; stays = stays }

abbrev pub single_meaning : GaugeMeaning SingleInstrument
single_meaning = record { says = single_says; after = single_after; laws = single_laws }
