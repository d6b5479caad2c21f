-- The meaning of a gate.
use Rattle.std.specs.Prelude.{◌≡◌, ℕ, ◌+◌, ◌<◌, ◌≤◌, min, true, cond, pos, is_some, Some, Ok, Err, Result, nat_le, nat_lt, refl}
use Rattle.std.proofs.Common.{ap, arith}
use Rattle.std.proofs.Math.Bool.{Bool-set}
use mathlib.Core.HLevel.{is_prop→PathP}
use Rattle.std.proofs.lemmas.Bool.{le-leb, leb-true, leb-false, ltb-false, cond_both, cond-true}
use Rattle.std.specs.Int.{abs_diff}
use Rattle.measure.specs.Limits.{highest_level}
use Rattle.measure.specs.declared.refusal.Refusal.{Refusal}
use Rattle.measure.specs.declared.refusal.Cause.TheVariants.{NothingHeard, GateLost}
use Rattle.measure.specs.Refusals.{refusal}
use Rattle.gauge.specs.declared.sample.Sample.{Sample}
use Rattle.gauge.specs.declared.gate.Gate.{Gate}
use Rattle.gauge.specs.declared.gate.state.State.{State}
use Rattle.gauge.specs.declared.gate.state.State.TheVariants.{Empty, Settled, Suspect, Lost}
use Rattle.gauge.specs.GateStates.{state_right, state_after}
use Rattle.gauge.specs.Samples.{first_wrong}
use Rattle.gauge.specs.Gauges.{GaugeMeaning}

-- larger values count as the limit
abbrev pub counted_allowance : ℕ → ℕ
counted_allowance a = min a 9990

abbrev pub counted_retries : ℕ → ℕ
counted_retries n = min n 999

-- ---- what it says

-- a fault below is what the gate says; over a level it says what it holds
abbrev pub state_says : State → Result ℕ Refusal → Result ℕ Refusal
state_says state (Err fault) = Err fault
state_says Empty (Ok g) = Err (refusal NothingHeard (pos 0))
state_says (Settled held) (Ok g) = Ok held
state_says (Suspect held count) (Ok g) = Ok held
state_says (Lost held) (Ok g) = Err (refusal GateLost (pos held))

-- ---- the cases of a step

-- a property of the state that a level g leads to, over a held level: g is within the allowance, or farther
pub near_has : (P : State → Type 0) (allowance held g : ℕ) (farther : State) → P (Settled g) → (allowance < abs_diff g held → P farther)
    → P (cond (nat_le (abs_diff g held) allowance) (Settled g) farther)
near_has P a held g farther near far = cond_both (nat_le (abs_diff g held) a) (Settled g) farther P (λ _. near) (λ no. far (leb-false (abs_diff g held) a no))

-- the same where g is doubted: it is within the allowance, or lost, or counted
pub doubted_has : (P : State → Type 0) (allowance retries held count g : ℕ) → P (Settled g) → P (Lost g) → (allowance < abs_diff g held → count ≤ retries → P (Suspect held count))
    → P (cond (nat_le (abs_diff g held) allowance) (Settled g) (cond (nat_lt retries count) (Lost g) (Suspect held count)))
doubted_has P a r held count g settled lost suspect =
    near_has P a held g (cond (nat_lt r count) (Lost g) (Suspect held count)) settled
    (λ far. cond_both (nat_lt r count) (Lost g) (Suspect held count) P (λ _. lost) (λ no. suspect far (ltb-false r count no)))

-- ---- its state keeps to the limit

pub state_stays_right : (allowance retries : ℕ) (state : State) (below : Result ℕ Refusal) → state_right state ≡ true → ((n : ℕ) → below ≡ Ok n → n ≤ highest_level) → state_right (state_after allowance retries state below) ≡ true
state_stays_right a r state (Err fault) h most = h
state_stays_right a r Empty (Ok g) h most = le-leb g highest_level (most g refl)
state_stays_right a r (Settled held) (Ok g) h most =
    let new = le-leb g highest_level (most g refl) in
    doubted_has (λ s. state_right s ≡ true) a r held 1 g new new (λ _ _. h)
state_stays_right a r (Suspect held count) (Ok g) h most =
    let new = le-leb g highest_level (most g refl) in
    doubted_has (λ s. state_right s ≡ true) a r held (count + 1) g new new (λ _ _. h)
state_stays_right a r (Lost held) (Ok g) h most =
    let new = le-leb g highest_level (most g refl) in
    near_has (λ s. state_right s ≡ true) a held g (Lost g) new (λ _. new)

pub says_most : (state : State) (below : Result ℕ Refusal) (level : ℕ) → state_right state ≡ true → state_says state below ≡ Ok level → level ≤ highest_level
says_most state (Err fault) level h e = absurd cc
says_most Empty (Ok g) level h e = absurd cc
says_most (Settled held) (Ok g) level h e = let same : held ≡ level = cc in let most = leb-true held highest_level h in omega arith
says_most (Suspect held count) (Ok g) level h e = let same : held ≡ level = cc in let most = leb-true held highest_level h in omega arith
says_most (Lost held) (Ok g) level h e = absurd cc

-- gates that hold the same are the same
pub same_gate : {G : Type 0} (g h : Gate G) → g.below ≡ h.below → g.allowance ≡ h.allowance → g.retries ≡ h.retries → g.state ≡ h.state → g ≡ h
same_gate g h b a r s = λ i. record {
  below = b i;
  allowance = a i;
  retries = r i;
  state = s i;
  right = is_prop→PathP (λ j. state_right (s j) ≡ true) (λ j. Bool-set (state_right (s j)) true) g.right h.right i;
}

module _ {G : Type 0} (m : GaugeMeaning G) where
  abbrev pub gate_says : Gate G → Result ℕ Refusal
  gate_says g = state_says g.state (m.says g.below)

  -- it hands the sample on, and then looks at what the gauge below says
  abbrev pub stepped : Gate G → Sample → Gate G
  stepped g s = record {
    below = m.after g.below s;
    allowance = g.allowance;
    retries = g.retries;
    state = state_after g.allowance g.retries g.state (m.says (m.after g.below s));
    right = state_stays_right g.allowance g.retries g.state (m.says (m.after g.below s)) g.right (m.laws.level_most (m.after g.below s));
  }

  -- a sample outside its limits changes nothing
  abbrev pub gate_after : Gate G → Sample → Gate G
  gate_after g s = cond (is_some (first_wrong s)) g (stepped g s)

  pub gate_stays : (g : Gate G) (s : Sample) (n : ℕ) → first_wrong s ≡ Some n → gate_after g s ≡ g
  gate_stays g s n e = cond-true (is_some (first_wrong s)) g (stepped g s) (ap (is_some {T = ℕ}) e)

  abbrev pub gate_meaning : GaugeMeaning (Gate G)
  gate_meaning = record {
    says = gate_says;
    after = gate_after;
    laws = record {
      level_most = λ g level. says_most g.state (m.says g.below) level g.right;
      stays = gate_stays;
    };
  }
