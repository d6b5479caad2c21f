-- The meaning of a pair of gauges.
use Rattle.std.specs.Prelude.{◌≡◌, ℕ, ◌≤◌, Some, Ok, Err, Result}
use Rattle.measure.specs.Limits.{highest_level}
use Rattle.measure.specs.declared.refusal.Refusal.{Refusal}
use Rattle.gauge.specs.declared.sample.Sample.{Sample}
use Rattle.gauge.specs.declared.pair.Pair.{Pair}
use Rattle.gauge.specs.Samples.{first_wrong}
use Rattle.gauge.specs.Gauges.{GaugeMeaning}

-- the first's level, else the second's level, else the first's fault
abbrev pub level_of : Result ℕ Refusal → Result ℕ Refusal → Result ℕ Refusal
level_of (Ok level) second = Ok level
level_of (Err fault) (Ok level) = Ok level
level_of (Err fault) (Err other) = Err fault

pub level_most : (first second : Result ℕ Refusal) (level : ℕ) → ((n : ℕ) → first ≡ Ok n → n ≤ highest_level) → ((n : ℕ) → second ≡ Ok n → n ≤ highest_level) → level_of first second ≡ Ok level → level ≤ highest_level
level_most (Ok l) second level p q e = p level e
level_most (Err f) (Ok l) level p q e = q level e
level_most (Err f) (Err o) level p q e = absurd cc

module _ {A B : Type 0} (a : GaugeMeaning A) (b : GaugeMeaning B) where
  abbrev pub pair_says : Pair A B → Result ℕ Refusal
  pair_says p = level_of (a.says p.first) (b.says p.second)

  abbrev pub pair_after : Pair A B → Sample → Pair A B
  pair_after p s = record { first = a.after p.first s; second = b.after p.second s }

  pub stays : (p : Pair A B) (s : Sample) (n : ℕ) → first_wrong s ≡ Some n → pair_after p s ≡ p
  stays p s n e = λ i. record { first = a.laws.stays p.first s n e i; second = b.laws.stays p.second s n e i }

  abbrev pub pair_meaning : GaugeMeaning (Pair A B)
  pair_meaning = record {
    says = pair_says;
    after = pair_after;
    laws = record {
      level_most = λ p level. level_most (a.says p.first) (b.says p.second) level (a.laws.level_most p.first) (b.laws.level_most p.second);
      stays = stays;
    };
  }
