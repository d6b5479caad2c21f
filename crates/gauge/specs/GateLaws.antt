-- What a gate keeps over any history. A history is the list of what the gauge below told after each sample that was
-- within its limits, the newest first.
use Rattle.std.specs.Prelude.{◌≡◌, ℕ, zero, suc, ◌+◌, ◌<◌, cond, ◌⊎◌, List, [], ◌∷◌, is_some, Ok, Err, Result, ◌≢◌, nat_le}
use Rattle.std.specs.Int.{abs_diff}
use Rattle.measure.specs.declared.refusal.Refusal.{Refusal}
use Rattle.gauge.specs.declared.gate.Gate.{Gate}
use Rattle.gauge.specs.declared.sample.Sample.{Sample}
use Rattle.gauge.specs.declared.gate.state.State.{State}
use Rattle.gauge.specs.declared.gate.state.State.TheVariants.{Empty, Settled, Lost}
use Rattle.gauge.specs.GateStates.{state_after}
use Rattle.gauge.specs.Gates.{state_says, gate_meaning}
use Rattle.gauge.specs.Gauges.{GaugeMeaning}
use Rattle.gauge.specs.Samples.{first_wrong}

-- what a gate holds after a history, from what it held before
abbrev pub held_from : ℕ → ℕ → State → List (Result ℕ Refusal) → State
held_from allowance retries state [] = state
held_from allowance retries state (told ∷ history) = state_after allowance retries (held_from allowance retries state history) told

-- a gate begins empty
abbrev pub held_after : ℕ → ℕ → List (Result ℕ Refusal) → State
held_after allowance retries history = held_from allowance retries Empty history

-- how many levels in a row lay outside the allowance of a level, up to the newest; faults are passed over
abbrev pub doubts : ℕ → ℕ → List (Result ℕ Refusal) → ℕ
doubts allowance level [] = 0
doubts allowance level (Err fault ∷ history) = doubts allowance level history
doubts allowance level (Ok g ∷ history) = cond (nat_le (abs_diff g level) allowance) 0 (doubts allowance level history + 1)

-- the gauge below has told a level
abbrev pub Told : ℕ → List (Result ℕ Refusal) → Type 0
Told level [] = ⊥
Told level (told ∷ history) = (told ≡ Ok level) ⊎ Told level history

-- the gauge below told one thing n times
abbrev pub repeated : ℕ → Result ℕ Refusal → List (Result ℕ Refusal)
repeated zero told = []
repeated (suc n) told = told ∷ repeated n told

-- ---- histories of samples, the newest first

-- what a gauge holds after samples
abbrev pub held_by : {G : Type 0} → GaugeMeaning G → G → List Sample → G
held_by m g [] = g
held_by m g (s ∷ samples) = m.after (held_by m g samples) s

-- what it told after each sample that was within its limits
abbrev pub told_by : {G : Type 0} → GaugeMeaning G → G → List Sample → List (Result ℕ Refusal)
told_by m g [] = []
told_by m g (s ∷ samples) = cond (is_some (first_wrong s)) (told_by m g samples) (m.says (held_by m g (s ∷ samples)) ∷ told_by m g samples)

-- a gate after any samples holds what the history of the gauge below gives; its limits stay
pub record Follows {G : Type 0} (m : GaugeMeaning G) (gate : Gate G) (samples : List Sample) : Type 0 where
  pub same_below : (held_by (gate_meaning m) gate samples).below ≡ held_by m gate.below samples
  pub same_allowance : (held_by (gate_meaning m) gate samples).allowance ≡ gate.allowance
  pub same_retries : (held_by (gate_meaning m) gate samples).retries ≡ gate.retries
  pub same_state : (held_by (gate_meaning m) gate samples).state ≡ held_from gate.allowance gate.retries gate.state (told_by m gate.below samples)

abbrev pub GateFollows : {G : Type 0} → GaugeMeaning G → Type 0
GateFollows {G} m = (gate : Gate G) (samples : List Sample) → Follows m gate samples

-- ---- the laws

pub record GateLaws : Type 0 where
  -- Lost is reached only after more than the retry number of levels in a row outside the allowance of the level that
  -- the gate said until then
  pub lost_late : (allowance retries : ℕ) (history : List (Result ℕ Refusal)) (told : Result ℕ Refusal) (g : ℕ)
      → ((x : ℕ) → held_after allowance retries history ≢ Lost x) → held_after allowance retries (told ∷ history) ≡ Lost g
      → (level : ℕ) × (state_says (held_after allowance retries history) told ≡ Ok level) × (retries < doubts allowance level (told ∷ history))
  -- a level that a gate says is one that the gauge below has told
  pub said_below : (allowance retries : ℕ) (history : List (Result ℕ Refusal)) (told : Result ℕ Refusal) (level : ℕ)
      → state_says (held_after allowance retries history) told ≡ Ok level → Told level history
  -- a gauge below that tells one level settles any gate at it within the retry number plus two samples
  pub settles : (allowance retries : ℕ) (state : State) (level : ℕ) → held_from allowance retries state (repeated (retries + 2) (Ok level)) ≡ Settled level
