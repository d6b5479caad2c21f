-- Histories: the ledger after a list of calls, and what a run of them answers.
use Rattle.std.specs.Prelude.{◌≡◌, ℕ, ◌<◌, ◌≤◌, List, [], ◌∷◌, length, take, Some, None, Ok, Err, Result, slice_index_or}
use Rattle.measure.specs.declared.refusal.Refusal.{Refusal}
use Rattle.probe.specs.Probes.{done_unless}
use Rattle.working.specs.Limits.{largest_shell}
use Rattle.computer.specs.Ledgers.{Meanings, Ledger, DensityCovered}
use Rattle.computer.specs.Calls.{adopt_refusal, after_adopt, sample_refusal, after_sample, fit_refused, after_fit, element_refused, after_element, density_refused, after_density, shell_refused, after_shell, water_refused, after_water}
use Rattle.computer.specs.Readings.{read_refusal, Carries}
use Rattle.history.specs.declared.call.Call.{Call}
use Rattle.history.specs.declared.call.Call.TheVariants.{Adopt, Sample, Water, Fit, Element, Density, Shell, Read}
use Rattle.history.specs.declared.call.Outcome.{Outcome}
use Rattle.history.specs.declared.call.Outcome.TheVariants.{Done, Reading as ReadingOutcome}

-- a call is served, or refused
abbrev pub Answer : Type 0
Answer = Result Outcome Refusal

-- what a call answers that only changes the computer: it is done, or refused
abbrev pub as_answer : Result (Unit {0}) Refusal → Answer
as_answer (Ok done) = Ok Done
as_answer (Err e) = Err e

module _ {G T P : Type 0} where
  -- ---- the ledger

  -- after one call
  abbrev pub step : Meanings G T P → Ledger G T P → Call T → Ledger G T P
  step m l (Adopt survey) = after_adopt m l survey.table survey.date
  step m l (Sample sample) = after_sample m l sample
  step m l (Water height) = after_water l height
  step m l (Fit height) = after_fit l height
  step m l (Element number hundredths) = after_element l number hundredths
  step m l (Density density) = after_density m l density
  step m l (Shell shell) = after_shell l shell
  step m l (Read method) = l

  -- after all calls, from the first on
  abbrev pub ledger_after : Meanings G T P → Ledger G T P → List (Call T) → Ledger G T P
  ledger_after m l [] = l
  ledger_after m l (call ∷ calls) = ledger_after m (step m l call) calls

  -- in every history the density stays one that the rule covers, and the shell coefficient within its limit
  pub record KeepsLimits (m : Meanings G T P) : Type 0 where
    pub density : (l : Ledger G T P) (calls : List (Call T)) → DensityCovered m l → DensityCovered m (ledger_after m l calls)
    pub shell : (l : Ledger G T P) (calls : List (Call T)) → l.shell ≤ largest_shell → (ledger_after m l calls).shell ≤ largest_shell

  -- ---- answers

  -- a read answers a reading that carries what the ledger gives where no cause holds, and else the first cause
  abbrev pub ReadAnswered : Meanings G T P → Ledger G T P → ℕ → Answer → Type 0
  ReadAnswered m l method (Err e) = read_refusal m l method ≡ Some e
  ReadAnswered m l method (Ok Done) = ⊥
  ReadAnswered m l method (Ok (ReadingOutcome x)) = (read_refusal m l method ≡ None) × Carries m l method x

  -- every other call is done where no cause holds against it, and else refused with the first
  abbrev pub AnswerOf : Meanings G T P → Ledger G T P → Call T → Answer → Type 0
  AnswerOf m l (Adopt survey) a = a ≡ as_answer (done_unless (adopt_refusal m l survey.table survey.date))
  AnswerOf m l (Sample sample) a = a ≡ as_answer (done_unless (sample_refusal sample))
  AnswerOf m l (Water height) a = a ≡ as_answer (done_unless (water_refused height))
  AnswerOf m l (Fit height) a = a ≡ as_answer (done_unless (fit_refused l height))
  AnswerOf m l (Element number hundredths) a = a ≡ as_answer (done_unless (element_refused l number))
  AnswerOf m l (Density density) a = a ≡ as_answer (done_unless (density_refused m l density))
  AnswerOf m l (Shell shell) a = a ≡ as_answer (done_unless (shell_refused shell))
  AnswerOf m l (Read method) a = ReadAnswered m l method a

  -- the answers to calls, one by one
  abbrev pub Answered : Meanings G T P → Ledger G T P → List (Call T) → List Answer → Type 0
  Answered m l [] [] = Unit {0}
  Answered m l [] (a ∷ rest) = ⊥
  Answered m l (call ∷ calls) [] = ⊥
  Answered m l (call ∷ calls) (a ∷ rest) = AnswerOf m l call a × Answered m (step m l call) calls rest

  -- a run from a ledger: every call has an answer, and it is the ledger's after the calls before it
  pub record Ran (m : Meanings G T P) (start : Ledger G T P) (calls : List (Call T)) (answers : List Answer) : Type 0 where
    pub all : length answers ≡ length calls
    pub each : (k : ℕ) → k < length calls → (call : Call T) (answer : Answer) → AnswerOf m (ledger_after m start (take k calls)) (slice_index_or calls k call) (slice_index_or answers k answer)
