-- What a gate holds, and how that changes with the level below.
use Rattle.std.specs.Prelude.{ℕ, ◌+◌, Bool, true, cond, Ok, Err, Result, nat_le, nat_lt}
use Rattle.std.specs.Int.{abs_diff}
use Rattle.measure.specs.Limits.{highest_level}
use Rattle.measure.specs.declared.refusal.Refusal.{Refusal}
use Rattle.gauge.specs.declared.gate.state.State.{State}
use Rattle.gauge.specs.declared.gate.state.State.TheVariants.{Empty, Settled, Suspect, Lost}

-- a held level is within its limit
abbrev pub state_right : State → Bool
state_right Empty = true
state_right (Settled held) = nat_le held highest_level
state_right (Suspect held count) = nat_le held highest_level
state_right (Lost held) = nat_le held highest_level

-- the level g below is outside the allowance for the count-th time in a row
abbrev doubted : ℕ → ℕ → ℕ → ℕ → State
doubted retries held count g = cond (nat_lt retries count) (Lost g) (Suspect held count)

-- the level g below: within the allowance of the held level it is settled at, else doubted or lost
abbrev level_after : ℕ → ℕ → State → ℕ → State
level_after allowance retries Empty g = Settled g
level_after allowance retries (Settled held) g = cond (nat_le (abs_diff g held) allowance) (Settled g) (doubted retries held 1 g)
level_after allowance retries (Suspect held count) g = cond (nat_le (abs_diff g held) allowance) (Settled g) (doubted retries held (count + 1) g)
level_after allowance retries (Lost held) g = cond (nat_le (abs_diff g held) allowance) (Settled g) (Lost g)

-- with a fault below the state stays
abbrev pub state_after : ℕ → ℕ → State → Result ℕ Refusal → State
state_after allowance retries state (Err fault) = state
state_after allowance retries state (Ok g) = level_after allowance retries state g
