-- The figures of a reading, from what was observed: one step above the other.
use Rattle.std.specs.Prelude.{◌≡◌, ℕ, ◌-◌, ℤ, pos}
use Rattle.working.specs.declared.temperature.Temperature.{Temperature}
use Rattle.working.specs.declared.observation.Observation.{Observation}
use Rattle.working.specs.declared.figures.Figures.{Figures}
use Rattle.working.specs.Steps.{offset, wall_factor, expansion, exponent, correction, scaled}
use Rattle.working.specs.Methods.{mass}

abbrev pub offset_of : Temperature → ℤ
offset_of t = offset t.ten_millionths

-- between the water and the level, in tenths of a litre
abbrev pub observed_volume : Observation → ℕ
observed_volume o = o.at_level - o.at_water

abbrev pub wall_factor_of : Observation → ℤ
wall_factor_of o = wall_factor o.shell (offset_of o.wall)

abbrev pub gross_of : Observation → ℤ
gross_of o = scaled (pos (observed_volume o)) (wall_factor_of o)

abbrev pub correction_of : Observation → ℤ
correction_of o = correction (exponent (expansion o.coefficient (offset_of o.product)))

abbrev pub standard_of : Observation → ℤ
standard_of o = scaled (gross_of o) (correction_of o)

abbrev pub mass_of : Observation → ℤ
mass_of o = mass o.method (standard_of o) o.density

-- figures that were worked out of an observation
pub record WorkedOut (o : Observation) (f : Figures) : Type 0 where
  pub wall_factor_is : pos f.wall_factor ≡ wall_factor_of o
  pub gross_is : pos f.gross ≡ gross_of o
  pub correction_is : pos f.correction ≡ correction_of o
  pub standard_is : pos f.standard ≡ standard_of o
  pub mass_is : pos f.mass ≡ mass_of o
