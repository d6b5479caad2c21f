-- The laws of a gate over its histories.
use Rattle.std.proofs.Common.{◌≡◌, ℕ, zero, suc, ◌+◌, ◌<◌, ◌≤◌, Bool, true, false, leb, List, [], ◌∷◌, is_some, Some, None, Ok, Err, Option, Result, refl, ap, ◌∙◌, subst, inl, inr, arith}
use Rattle.std.proofs.lemmas.Bool.{false≢true, le-leb, cond-true, cond-false}
use Rattle.std.proofs.lemmas.Bool.Decides.{nat_tests}
use Rattle.std.specs.Int.{abs_diff}
use Rattle.measure.specs.declared.refusal.Refusal.{Refusal}
use Rattle.gauge.specs.declared.gate.Gate.{Gate}
use Rattle.gauge.specs.declared.sample.Sample.{Sample}
use Rattle.gauge.specs.declared.gate.state.State.{State}
use Rattle.gauge.specs.declared.gate.state.State.TheVariants.{Empty, Settled, Suspect, Lost}
use Rattle.gauge.specs.GateStates.{state_after}
use Rattle.gauge.specs.Gates.{state_says, near_has, doubted_has, gate_meaning, stepped}
use Rattle.gauge.specs.Gauges.{GaugeMeaning}
use Rattle.gauge.specs.Samples.{first_wrong}
use Rattle.gauge.specs.GateLaws.{held_from, held_after, doubts, Told, repeated, held_by, told_by, Follows, GateLaws}

-- ---- Lost

-- the count of a suspect gate is one of doubts
abbrev Counted : ℕ → List (Result ℕ Refusal) → State → Type 0
Counted a history Empty = Unit {0}
Counted a history (Settled held) = Unit {0}
Counted a history (Suspect held count) = count ≤ doubts a held history
Counted a history (Lost held) = Unit {0}

counted_step : (a r : ℕ) (history : List (Result ℕ Refusal)) (state : State) (told : Result ℕ Refusal) → Counted a history state → Counted a (told ∷ history) (state_after a r state told)
counted_step a r history Empty (Err f) c = tt
counted_step a r history (Settled held) (Err f) c = tt
counted_step a r history (Suspect held count) (Err f) c = c
counted_step a r history (Lost held) (Err f) c = tt
counted_step a r history Empty (Ok g) c = tt
counted_step a r history (Settled held) (Ok g) c = doubted_has (Counted a (Ok g ∷ history)) a r held 1 g tt tt (λ far most. grind (arith, nat_tests, far))
counted_step a r history (Suspect held count) (Ok g) c = doubted_has (Counted a (Ok g ∷ history)) a r held (count + 1) g tt tt (λ far most. grind (arith, nat_tests, far, c))
counted_step a r history (Lost held) (Ok g) c = near_has (Counted a (Ok g ∷ history)) a held g (Lost g) tt (λ far. tt)

counted : (a r : ℕ) (history : List (Result ℕ Refusal)) → Counted a history (held_after a r history)
counted a r [] = tt
counted a r (told ∷ history) = counted_step a r history (held_after a r history) told (counted a r history)

lost_step : (a r : ℕ) (history : List (Result ℕ Refusal)) (state : State) (told : Result ℕ Refusal) (g : ℕ) → Counted a history state → ((x : ℕ) → state ≡ Lost x → ⊥) → state_after a r state told ≡ Lost g → (level : ℕ) × (state_says state told ≡ Ok level) × (r < doubts a level (told ∷ history))
lost_step a r history state (Err f) g c n e = absurd (n g e)
lost_step a r history Empty (Ok h) g c n e = absurd cc
lost_step a r history (Settled held) (Ok h) g c n e = (held, refl, grind (arith, nat_tests, e))
lost_step a r history (Suspect held count) (Ok h) g c n e = (held, refl, grind (arith, nat_tests, e, c))
lost_step a r history (Lost held) (Ok h) g c n e = absurd (n held refl)

-- ---- what is said was told

abbrev Kept : List (Result ℕ Refusal) → State → Type 0
Kept history Empty = Unit {0}
Kept history (Settled held) = Told held history
Kept history (Suspect held count) = Told held history
Kept history (Lost held) = Told held history

kept_step : (a r : ℕ) (history : List (Result ℕ Refusal)) (state : State) (told : Result ℕ Refusal) → Kept history state → Kept (told ∷ history) (state_after a r state told)
kept_step a r history Empty (Err f) k = tt
kept_step a r history (Settled held) (Err f) k = inr k
kept_step a r history (Suspect held count) (Err f) k = inr k
kept_step a r history (Lost held) (Err f) k = inr k
kept_step a r history Empty (Ok g) k = inl refl
kept_step a r history (Settled held) (Ok g) k = doubted_has (Kept (Ok g ∷ history)) a r held 1 g (inl refl) (inl refl) (λ far most. inr k)
kept_step a r history (Suspect held count) (Ok g) k = doubted_has (Kept (Ok g ∷ history)) a r held (count + 1) g (inl refl) (inl refl) (λ far most. inr k)
kept_step a r history (Lost held) (Ok g) k = near_has (Kept (Ok g ∷ history)) a held g (Lost g) (inl refl) (λ far. inl refl)

kept : (a r : ℕ) (history : List (Result ℕ Refusal)) → Kept history (held_after a r history)
kept a r [] = tt
kept a r (told ∷ history) = kept_step a r history (held_after a r history) told (kept a r history)

said : (history : List (Result ℕ Refusal)) (state : State) (told : Result ℕ Refusal) (level : ℕ) → Kept history state → state_says state told ≡ Ok level → Told level history
said history state (Err f) level k e = absurd cc
said history Empty (Ok g) level k e = absurd cc
said history (Settled held) (Ok g) level k e = let same : held ≡ level = cc in subst (λ (l : ℕ). Told l history) same k
said history (Suspect held count) (Ok g) level k e = let same : held ≡ level = cc in subst (λ (l : ℕ). Told l history) same k
said history (Lost held) (Ok g) level k e = absurd cc

-- ---- settling

-- after n samples at one level g: settled or lost at it, or suspect with n counts and no more than the retry number
abbrev Reached : ℕ → ℕ → ℕ → State → Type 0
Reached r g n Empty = ⊥
Reached r g n (Settled held) = held ≡ g
Reached r g n (Suspect held count) = (n ≤ count) × (count ≤ r)
Reached r g n (Lost held) = held ≡ g

reached_next : (a r g n : ℕ) (state : State) → Reached r g n state → Reached r g (suc n) (state_after a r state (Ok g))
reached_next a r g n Empty k = absurd k
reached_next a r g n (Settled held) k = doubted_has (Reached r g (suc n)) a r held 1 g refl refl (λ far most. absurd (omega arith))
reached_next a r g n (Suspect held count) k = doubted_has (Reached r g (suc n)) a r held (count + 1) g refl refl (λ far most. let least = k.0 in (omega arith, most))
reached_next a r g n (Lost held) k = near_has (Reached r g (suc n)) a held g (Lost g) refl (λ far. refl)

reached_first : (a r g : ℕ) (state : State) → Reached r g 1 (state_after a r state (Ok g))
reached_first a r g Empty = refl
reached_first a r g (Settled held) = doubted_has (Reached r g 1) a r held 1 g refl refl (λ far most. (omega arith, most))
reached_first a r g (Suspect held count) = doubted_has (Reached r g 1) a r held (count + 1) g refl refl (λ far most. (omega arith, most))
reached_first a r g (Lost held) = near_has (Reached r g 1) a held g (Lost g) refl (λ far. refl)

abbrev held_at : ℕ → ℕ → State → ℕ → ℕ → State
held_at a r state g n = held_from a r state (repeated n (Ok g))

reached : (a r g n : ℕ) (state : State) → Reached r g (suc n) (held_at a r state g (suc n))
reached a r g zero state = reached_first a r g state
reached a r g (suc n) state = reached_next a r g (suc n) (held_at a r state g (suc n)) (reached a r g n state)

at_last : (a r g : ℕ) (state : State) → Reached r g (suc r) state → state_after a r state (Ok g) ≡ Settled g
at_last a r g Empty k = absurd k
at_last a r g (Settled held) k = cond-true (leb (abs_diff g held) a) (Settled g) _ (le-leb (abs_diff g held) a (omega arith))
at_last a r g (Suspect held count) k = let least = k.0 in let most = k.1 in absurd (omega arith)
at_last a r g (Lost held) k = cond-true (leb (abs_diff g held) a) (Settled g) _ (le-leb (abs_diff g held) a (omega arith))

settles : (a r : ℕ) (state : State) (g : ℕ) → held_at a r state g (r + 2) ≡ Settled g
settles a r state g =
    let steps : r + 2 ≡ suc (suc r) = omega arith in
    ap (λ (n : ℕ). held_at a r state g n) steps ∙ at_last a r g (held_at a r state g (suc r)) (reached a r g r state)

pub gate_laws : GateLaws
gate_laws = record {
  lost_late = λ a r history told g n e. lost_step a r history (held_after a r history) told g (counted a r history) n e;
  said_below = λ a r history told level e. said history (held_after a r history) told level (kept a r history) e;
  settles = settles;
}

-- ---- a gate follows what was told below

-- a sample outside its limits changes nothing below
unmoved : {G : Type 0} (m : GaugeMeaning G) (g : G) (s : Sample) (wrong : Option ℕ) → first_wrong s ≡ wrong → is_some wrong ≡ true → m.after g s ≡ g
unmoved m g s None e h = absurd (false≢true h)
unmoved m g s (Some n) e h = m.laws.stays g s n e

module _ {G : Type 0} (m : GaugeMeaning G) (gate : Gate G) where
  step_by : (b : Bool) (s : Sample) (samples : List Sample) → is_some (first_wrong s) ≡ b → Follows m gate samples → Follows m gate (s ∷ samples)
  step_by true s samples e f =
      let held = held_by (gate_meaning m) gate samples in
      let below = held_by m gate.below samples in
      let same : held_by (gate_meaning m) gate (s ∷ samples) ≡ held = cond-true _ _ _ e in
      let history : told_by m gate.below (s ∷ samples) ≡ told_by m gate.below samples = cond-true _ _ _ e in
      let still = unmoved m below s (first_wrong s) refl e in
      record { same_below = cc; same_allowance = cc; same_retries = cc; same_state = cc }
  step_by false s samples e f =
      let held = held_by (gate_meaning m) gate samples in
      let below = held_by m gate.below samples in
      let same : held_by (gate_meaning m) gate (s ∷ samples) ≡ stepped m held s = cond-false _ _ _ e in
      let history : told_by m gate.below (s ∷ samples) ≡ m.says (m.after below s) ∷ told_by m gate.below samples = cond-false _ _ _ e in
      record { same_below = cc; same_allowance = cc; same_retries = cc; same_state = cc }

  pub follows : (samples : List Sample) → Follows m gate samples
  follows [] = record { same_below = refl; same_allowance = refl; same_retries = refl; same_state = refl }
  follows (s ∷ samples) = step_by (is_some (first_wrong s)) s samples refl (follows samples)
