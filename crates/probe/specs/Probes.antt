-- What fitting an element and giving one a temperature answer, and what is fitted after.
use Rattle.std.specs.Prelude.{ℕ, ◌-◌, cond, ◌||◌, List, [], ◌∷◌, ◌++◌, length, take, ℤ, pos, Some, None, Ok, Err, Option, Result, nat_le, nat_lt, slice_index_or, slice_set}
use Rattle.measure.specs.declared.refusal.Refusal.{Refusal}
use Rattle.measure.specs.declared.refusal.Cause.TheVariants.{ElementNotFitted, ElementHeight, ProbeFull}
use Rattle.measure.specs.Limits.{highest_level}
use Rattle.measure.specs.Refusals.{refusal}
use Rattle.probe.specs.declared.element.ProbeElement.{ProbeElement}
use Rattle.probe.specs.declared.probe.Probe.{Probe}
use Rattle.probe.specs.Elements.{new_element, heard, lowest_free}

-- the elements that are fitted, from the bottom up
abbrev pub fitted_in : Probe → List ProbeElement
fitted_in p = take p.fitted p.entries.list

abbrev pub most_elements : ℕ
most_elements = 16

-- done, unless there is a refusal
abbrev pub done_unless : Option Refusal → Result (Unit {0}) Refusal
done_unless None = Ok tt
done_unless (Some e) = Err e

-- what stays as it was where there is a refusal
abbrev pub unless_refused : {X : Type 0} → Option Refusal → X → X → X
unless_refused None before after = after
unless_refused (Some e) before after = before

-- ---- fitting

-- sixteen are fitted; then: not above the last, or too high
abbrev pub fit_refusal : List ProbeElement → ℕ → Option Refusal
fit_refusal es height =
    cond (nat_le most_elements (length es)) (Some (refusal ProbeFull (pos 16)))
    (cond (nat_lt height (lowest_free es) || nat_lt highest_level height) (Some (refusal ElementHeight (pos height))) None)

abbrev pub after_fit : List ProbeElement → ℕ → List ProbeElement
after_fit es height = unless_refused (fit_refusal es height) es (es ++ (new_element height ∷ []))

-- ---- temperatures

-- element n, from 1, is not fitted
abbrev pub hear_refusal : List ProbeElement → ℕ → Option Refusal
hear_refusal es n = cond (nat_lt n 1 || nat_lt (length es) n) (Some (refusal ElementNotFitted (pos n))) None

-- only the entry of element n changes
abbrev pub after_hearing : List ProbeElement → ℕ → ℤ → List ProbeElement
after_hearing es n t = unless_refused (hear_refusal es n) es (slice_set es (n - 1) (heard (slice_index_or es (n - 1) (new_element 0)) t))
