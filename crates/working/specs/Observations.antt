-- The limits of what a reading is worked out from.
use Rattle.std.specs.Prelude.{ℕ, ◌≤◌}
use Rattle.product.specs.Rules.{least_density, greatest_density}
use Rattle.working.specs.Limits.{largest_shell, most_tenths, most_coefficient}

-- the table at the water answers no more than at the level
abbrev pub Observable : ℕ → ℕ → ℕ → ℕ → ℕ → Type 0
Observable at_level at_water shell coefficient density =
    ((at_level ≤ most_tenths) × (at_water ≤ at_level)) × ((shell ≤ largest_shell) × (coefficient ≤ most_coefficient))
    × ((least_density ≤ density) × (density ≤ greatest_density))
