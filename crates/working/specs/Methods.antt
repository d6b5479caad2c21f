-- The methods of mass.
use Rattle.std.specs.Prelude.{ℕ, cond, ℤ, pos, Ok, Err, Result, ◌==◌}
use Rattle.measure.specs.declared.refusal.Refusal.{Refusal}
use Rattle.measure.specs.declared.refusal.Cause.TheVariants.{MethodUnknown}
use Rattle.measure.specs.Refusals.{refusal}
use Rattle.working.specs.declared.method.Method.{Method}
use Rattle.working.specs.declared.method.Method.TheVariants.{Plain, InAir}
use Rattle.working.specs.Steps.{plain_mass, mass_in_air}

-- ---- methods are asked for by number

abbrev pub method_number : Method → ℕ
method_number Plain = 1
method_number InAir = 2

abbrev pub method_of : ℕ → Result Method Refusal
method_of n = cond (n == 1) (Ok Plain) (cond (n == 2) (Ok InAir) (Err (refusal MethodUnknown (pos n))))

-- kilograms from a standard volume in tenths of a litre and a density
abbrev pub mass : Method → ℤ → ℕ → ℤ
mass Plain standard r = plain_mass standard r
mass InAir standard r = mass_in_air standard r
