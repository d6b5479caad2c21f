-- In every history the density stays covered, and the shell coefficient within its limit.
use Rattle.std.proofs.Common.{◌≡◌, ℕ, ◌≤◌, Bool, true, false, nat_lt, List, [], ◌∷◌, Some, None, Ok, Err, Option, Result, refl}
use Rattle.std.proofs.lemmas.Bool.{ltb-false}
use Rattle.measure.specs.declared.refusal.Refusal.{Refusal}
use Rattle.measure.specs.declared.refusal.Cause.TheVariants.{ShellLimit}
use Rattle.probe.specs.Probes.{unless_refused}
use Rattle.product.specs.Rules.{answered, covered}
use Rattle.working.specs.Limits.{largest_shell}
use Rattle.computer.specs.Ledgers.{Meanings, Ledger, covered_density, DensityCovered}
use Rattle.computer.specs.Calls.{refused_if, refusal_in, adopt_refusal, sample_refusal, density_refused, shell_refused, water_refused}
use Rattle.computer.proofs.Observed.{rule_told}
use Rattle.history.specs.declared.call.Call.{Call}
use Rattle.history.specs.declared.call.Call.TheVariants.{Adopt, Sample, Water, Fit, Element, Density, Shell, Read}
use Rattle.history.specs.Histories.{step, ledger_after, KeepsLimits}

-- what holds of a ledger as it was and as it is after a served call holds of it after the call
kept : {X : Type 0} (Holds : X → Type 0) (refused : Option Refusal) (before after : X) → Holds before → (refused ≡ None → Holds after) → Holds (unless_refused refused before after)
kept Holds None before after h k = k refl
kept Holds (Some e) before after h k = h

served_shell : (shell : ℕ) (over : Bool) → nat_lt largest_shell shell ≡ over → refused_if over ShellLimit shell ≡ None → shell ≤ largest_shell
served_shell shell true e none = absurd cc
served_shell shell false e none = ltb-false largest_shell shell e

module _ {G T P : Type 0} (m : Meanings G T P) where
  served_density : (l : Ledger G T P) (r : ℕ) (told : Result ℕ Refusal) → answered m.rule l.rule r ≡ told → refusal_in told ≡ None → covered m.rule l.rule r ≡ true
  served_density l r (Ok n) e none = (rule_told m.rule l.rule r n e).within
  served_density l r (Err fault) e none = absurd cc

  -- what speaks of the rule, the density and the shell coefficient alone stays, where a density and a shell coefficient
  -- that are not refused keep it
  module _ (Holds : P → Option ℕ → ℕ → Type 0)
      (density : (l : Ledger G T P) (r : ℕ) → density_refused m l r ≡ None → Holds l.rule l.density l.shell → Holds l.rule (Some r) l.shell)
      (shell : (l : Ledger G T P) (s : ℕ) → shell_refused s ≡ None → Holds l.rule l.density l.shell → Holds l.rule l.density s) where
    abbrev of : Ledger G T P → Type 0
    of l = Holds l.rule l.density l.shell

    after_call : (l : Ledger G T P) (call : Call T) → of l → of (step m l call)
    after_call l (Adopt survey) h = kept of (adopt_refusal m l survey.table survey.date) l _ h (λ _. h)
    after_call l (Sample sample) h = kept of (sample_refusal sample) l _ h (λ _. h)
    after_call l (Water height) h = kept of (water_refused height) l _ h (λ _. h)
    after_call l (Fit height) h = h
    after_call l (Element number hundredths) h = h
    after_call l (Density r) h = kept of (density_refused m l r) l _ h (λ none. density l r none h)
    after_call l (Shell s) h = kept of (shell_refused s) l _ h (λ none. shell l s none h)
    after_call l (Read method) h = h

    stays : (l : Ledger G T P) (calls : List (Call T)) → of l → of (ledger_after m l calls)
    stays l [] h = h
    stays l (call ∷ calls) h = stays (step m l call) calls (after_call l call h)

  density_stays : (l : Ledger G T P) (calls : List (Call T)) → DensityCovered m l → DensityCovered m (ledger_after m l calls)
  density_stays = stays (λ rule d _. covered_density m.rule rule d)
      (λ l r none _. served_density l r (answered m.rule l.rule r) refl none) (λ l s none h. h)

  pub density_kept : (l : Ledger G T P) (call : Call T) → DensityCovered m l → DensityCovered m (step m l call)
  density_kept l call = density_stays l (call ∷ [])

  pub keeps_limits : KeepsLimits m
  keeps_limits = record {
    density = density_stays;
    shell = stays (λ _ _ s. s ≤ largest_shell) (λ l r none h. h) (λ l s none _. served_shell s (nat_lt largest_shell s) refl none);
  }
