-- The average temperature of the liquid from the water up to the level. It is told over the list of the elements that
-- count, from the bottom up. Heights are tenths of a millimetre.
use Rattle.std.specs.Prelude.{ℕ, ◌+◌, ◌-◌, ◌*◌, Bool, true, false, ◌&&◌, List, [], ◌∷◌, ℤ, pos, ◌+ℤ◌, ◌*ℤ◌, nat_le, nat_lt}
use Rattle.measure.specs.Limits.{highest_level}
use Rattle.measure.specs.Rounding.{rounded}
use Rattle.working.specs.declared.element.CountingElement.{CountingElement}
use Rattle.working.specs.Limits.{good_temperature}

-- ---- weights

-- the doubled height of liquid that each element stands for: from midway to the one below, or from the water, to midway
-- to the one above, or to the level. `from` is the doubled height at which the first begins
abbrev pub weights_from : ℕ → List CountingElement → ℕ → List ℕ
weights_from from [] level = []
weights_from from (e ∷ []) level = (2 * level - from) ∷ []
weights_from from (e ∷ (next ∷ es)) level = (e.height + next.height - from) ∷ weights_from (e.height + next.height) (next ∷ es) level

abbrev pub weights : List CountingElement → ℕ → ℕ → List ℕ
weights es water level = weights_from (2 * water) es level

abbrev pub total : List ℕ → ℕ
total [] = 0
total (n ∷ ns) = n + total ns

-- the sum of weight × temperature
abbrev pub weighted : List ℕ → List CountingElement → ℤ
weighted [] es = pos 0
weighted (n ∷ ns) [] = pos 0
weighted (n ∷ ns) (e ∷ es) = (pos n *ℤ e.hundredths) +ℤ weighted ns es

-- ---- the average, in ten-millionths of a °C

unfoldable pub average : List CountingElement → ℕ → ℕ → ℤ
average es water level = rounded (pos 100000 *ℤ weighted (weights es water level) es) (total (weights es water level))

-- ---- which elements can stand in the liquid

-- they rise strictly, from `low` or above up to the level or below, and their temperatures are good
abbrev pub rising_from : ℕ → List CountingElement → ℕ → Bool
rising_from low [] level = true
rising_from low (e ∷ es) level = nat_le low e.height && nat_le e.height level && good_temperature e.hundredths && rising_from (e.height + 1) es level

abbrev pub some_element : List CountingElement → Bool
some_element [] = false
some_element (e ∷ es) = true

-- there is liquid above the water, and at least one element counts in it
abbrev pub liquid_right : List CountingElement → ℕ → ℕ → Bool
liquid_right es water level = some_element es && nat_lt water level && nat_le level highest_level && rising_from water es level
