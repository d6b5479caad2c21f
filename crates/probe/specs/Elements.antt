-- Probe elements: what a temperature makes of one, and how they stand above one another.
use Rattle.std.specs.Prelude.{ℕ, ◌+◌, Bool, true, cond, ◌&&◌, List, [], ◌∷◌, length, take, ℤ, Some, None, Option, ◌==◌, int_lt, nat_le}
use Rattle.measure.specs.Limits.{highest_level}
use Rattle.working.specs.declared.element.CountingElement.{CountingElement}
use Rattle.working.specs.Limits.{coldest_good, warmest_good, good_temperature}
use Rattle.probe.specs.declared.element.ElementState.{ElementState}
use Rattle.probe.specs.declared.element.ElementState.TheVariants.{Unheard, Good, Short, Open}
use Rattle.probe.specs.declared.element.ProbeElement.{ProbeElement}

-- below −4,000 hundredths of a °C an element is short, above 15,000 open, else good
abbrev pub state_of : ℤ → ElementState
state_of t = cond (int_lt t coldest_good) Short (cond (int_lt warmest_good t) Open (Good t))

-- a temperature changes the state alone
abbrev pub heard : ProbeElement → ℤ → ProbeElement
heard e t = record { height = e.height; state = state_of t }

-- a fitted element that has had no temperature
abbrev pub new_element : ℕ → ProbeElement
new_element height = record { height = height; state = Unheard }

-- ---- which elements count

abbrev counted_at : ℕ → ℕ → ℕ → ElementState → Option CountingElement
counted_at water level height (Good t) = cond (nat_le water height && nat_le height level) (Some (record { height = height; hundredths = t })) None
counted_at water level height Unheard = None
counted_at water level height Short = None
counted_at water level height Open = None

-- a good element counts from the water up to the level, both included
abbrev pub counted : ℕ → ℕ → ProbeElement → Option CountingElement
counted water level e = counted_at water level e.height e.state

-- ---- how they stand

-- the lowest height at which another element can be fitted
abbrev pub lowest_free : List ProbeElement → ℕ
lowest_free [] = 0
lowest_free (e ∷ []) = e.height + 1
lowest_free (e ∷ (next ∷ es)) = lowest_free (next ∷ es)

abbrev pub state_right : ElementState → Bool
state_right Unheard = true
state_right (Good t) = good_temperature t
state_right Short = true
state_right Open = true

-- heights rise strictly from `low` or above, within their limit, and good temperatures are within theirs
abbrev pub right_from : ℕ → List ProbeElement → Bool
right_from low [] = true
right_from low (e ∷ es) = nat_le low e.height && nat_le e.height highest_level && state_right e.state && right_from (e.height + 1) es

-- sixteen entries, of which the first are fitted
abbrev pub elements_right : List ProbeElement → ℕ → Bool
elements_right entries fitted = length entries == 16 && nat_le fitted 16 && right_from 0 (take fitted entries)
