-- What the answers of every table keep, whatever kind of table it is.
use Rattle.std.specs.Prelude.{◌≡◌, ℕ, ◌*◌, ◌<◌, ◌≤◌, Ok, Err}
use Rattle.measure.specs.Fractions.{natural, one_half, ten, ◌⊗◌, Within}
use Rattle.measure.specs.Limits.{largest_litres}
use Rattle.capacity.specs.Tables.{TableMeaning, answered, not_covered}

pub record AnswerLaws {T : Type 0} (m : TableMeaning T) : Type 0 where
  -- a height below the reach is answered, every other is refused
  pub served : (t : T) (h : ℕ) → h < m.reach t → (n : ℕ) × (answered m t h ≡ Ok n)
  pub refused : (t : T) (h : ℕ) → m.reach t ≤ h → answered m t h ≡ Err (not_covered h)
  -- an answer in tenths of a litre is at most half a tenth from the exact volume
  pub near : (t : T) (h n : ℕ) → answered m t h ≡ Ok n → Within one_half (natural n) (ten ⊗ m.volume t h)
  -- a greater height never holds less
  pub never_falls : (t : T) (g h k n : ℕ) → g ≤ h → answered m t g ≡ Ok k → answered m t h ≡ Ok n → k ≤ n
  -- no answer is above 200,000,000 litres
  pub most : (t : T) (h n : ℕ) → answered m t h ≡ Ok n → n ≤ 10 * largest_litres
