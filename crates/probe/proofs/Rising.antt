-- The elements that count stand in the liquid as its average asks.
use Rattle.std.proofs.Common.{◌≡◌, ℕ, ◌+◌, ◌≤◌, max, true, List, [], ◌∷◌, refl, arith}
use Rattle.std.proofs.lemmas.Bool.Decides.{nat_tests}
use Rattle.working.specs.Averages.{rising_from}
use Rattle.probe.specs.declared.element.ElementState.{ElementState}
use Rattle.probe.specs.declared.element.ElementState.TheVariants.{Unheard, Good, Short, Open}
use Rattle.probe.specs.declared.element.ProbeElement.{ProbeElement}
use Rattle.probe.specs.Elements.{right_from, state_right}
use Rattle.probe.specs.Counted.{counting}
use Rattle.probe.proofs.Fitted.{right_parts}

-- the element at `height` and those above it, which rise from any height up to the next one or the water
by_state : (from low height water level : ℕ) (state : ElementState) (es : List ProbeElement) → from ≤ max low water → low ≤ height → state_right state ≡ true → ((next : ℕ) → next ≤ max (height + 1) water → rising_from next (counting water level es) level ≡ true) → rising_from from (counting water level (record { height = height; state = state } ∷ es)) level ≡ true
by_state from low height water level Unheard es h above right rest = rest from (omega arith)
by_state from low height water level Short es h above right rest = rest from (omega arith)
by_state from low height water level Open es h above right rest = rest from (omega arith)
by_state from low height water level (Good t) es h above right rest = grind (arith, nat_tests, rest from, rest (height + 1))

-- `from` is no higher than the water, or than the lowest height of the elements
rises_from : (from low water level : ℕ) (es : List ProbeElement) → from ≤ max low water → right_from low es ≡ true → rising_from from (counting water level es) level ≡ true
rises_from from low water level [] h right = refl
rises_from from low water level (e ∷ es) h right =
    let r = right_parts low e es right in
    by_state from low e.height water level e.state es h r.above r.state (λ next most. rises_from next (e.height + 1) water level es most r.rest)

pub counting_rises : (water level : ℕ) (es : List ProbeElement) → right_from 0 es ≡ true → rising_from water (counting water level es) level ≡ true
counting_rises water level es right = rises_from water 0 water level es (omega arith) right
