-- The steps of a reading's working, in whole numbers. Each division is rounded, by the one rounding.
use Rattle.std.specs.Prelude.{ℕ, zero, suc, ◌-◌, ◌*◌, ℤ, pos, ◌+ℤ◌, ◌-ℤ◌, ◌*ℤ◌}
use Rattle.measure.specs.Rounding.{rounded}

-- factors and corrections are in units of 10^-9
abbrev pub unit : ℕ
unit = 1000000000

-- how far a temperature is from 15 °C, in ten-millionths of a °C
abbrev pub offset : ℤ → ℤ
offset temperature = temperature -ℤ pos 150000000

-- ---- the wall

-- y and z: the wall's expansion, in units of 10^-14 and of 10^-9
abbrev pub wall_expansion : ℕ → ℤ → ℤ
wall_expansion shell d = pos shell *ℤ d

abbrev pub wall_expansion_rounded : ℕ → ℤ → ℤ
wall_expansion_rounded shell d = rounded (wall_expansion shell d) 100000

-- the wall's own offset stands apart from the product's: (1 + expansion)²
unfoldable pub wall_factor : ℕ → ℤ → ℤ
wall_factor shell d = pos unit +ℤ rounded ((pos 20000 *ℤ wall_expansion shell d) +ℤ (wall_expansion_rounded shell d *ℤ wall_expansion_rounded shell d)) unit

-- ---- the correction for temperature

-- u and v, in units of 10^-9, from the coefficient in units of 10^-12 per °C
unfoldable pub expansion : ℕ → ℤ → ℤ
expansion coefficient d = rounded (pos coefficient *ℤ d) 10000000000

unfoldable pub exponent : ℤ → ℤ
exponent u = u +ℤ rounded (pos 8 *ℤ (u *ℤ u)) 10000000000

abbrev pub correction_step : ℤ → ℕ → ℤ → ℤ
correction_step v k p = pos unit -ℤ rounded (v *ℤ p) (k * unit)

-- the steps from k down to 1
abbrev pub correction_from : ℤ → ℕ → ℤ → ℤ
correction_from v zero p = p
correction_from v (suc k) p = correction_from v k (correction_step v (suc k) p)

unfoldable pub correction : ℤ → ℤ
correction v = correction_from v 12 (pos unit)

-- ---- volumes and mass

-- a volume in tenths of a litre, times a factor
unfoldable pub scaled : ℤ → ℤ → ℤ
scaled volume factor = rounded (volume *ℤ factor) unit

-- kilograms from tenths of a litre and a density r in half kilograms per cubic metre
unfoldable pub plain_mass : ℤ → ℕ → ℤ
plain_mass standard r = rounded (standard *ℤ pos r) 20000

-- in air 1.1 kg per cubic metre less, which is 11 in tenths of a kilogram
unfoldable pub mass_in_air : ℤ → ℕ → ℤ
mass_in_air standard r = rounded (standard *ℤ pos (5 * r - 11)) 100000
