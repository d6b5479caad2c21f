-- The checked figures: what must be answered, known from outside the project. One list, and one theorem over it.
use Rattle.std.specs.Prelude.{◌≡◌, ℕ, ◌-◌, List, [], ◌∷◌, ℤ, pos, Ok, Err, Result}
use Rattle.measure.specs.declared.refusal.Refusal.{Refusal}
use Rattle.measure.specs.declared.refusal.Cause.TheVariants.{DensityOutside}
use Rattle.measure.specs.Refusals.{refusal}
use Rattle.product.specs.declared.api.ApiRule.{ApiRule}
use Rattle.product.specs.declared.api.ApiRule.TheVariants.{Crude, Products, Lubricants}
use Rattle.product.specs.ApiRules.{api_meaning}
use Rattle.product.specs.Rules.{answered as rule_answered}
use Rattle.capacity.specs.declared.row.Row.{Row}
use Rattle.capacity.specs.declared.raised_datum.RaisedDatum.{RaisedDatum}
use Rattle.capacity.specs.declared.strapped.Strapped.{Strapped}
use Rattle.capacity.specs.Layers.{counted_rise, raised_meaning}
use Rattle.capacity.specs.Rows.{sealed}
use Rattle.capacity.specs.StrappedTables.{strapped_meaning}
use Rattle.capacity.specs.Tables.{answered, not_covered}
use Rattle.working.specs.declared.element.CountingElement.{CountingElement}
use Rattle.working.specs.declared.method.Method.TheVariants.{Plain, InAir}
use Rattle.working.specs.Averages.{average}
use Rattle.working.specs.Methods.{mass}
use Rattle.working.specs.Steps.{offset, wall_factor, expansion, exponent, correction, scaled}

-- ---- readings

-- what a reading is taken from: a tank, its product, and its liquid with the elements that count
pub record Taken : Type 0 where
  pub rows : List Row
  pub shell : ℕ
  pub rule : ApiRule
  pub density : ℕ
  pub elements : List CountingElement
  pub water : ℕ
  pub level : ℕ

-- what must come out, step by step
pub record Expected : Type 0 where
  pub at_level : ℕ
  pub at_water : ℕ
  pub coefficient : ℕ
  pub temperature : ℤ
  pub factor : ℤ
  pub gross : ℤ
  pub correction : ℤ
  pub standard : ℤ
  pub plain : ℤ
  pub in_air : ℤ

-- each step from the figures of the steps before it; wall and product have the liquid's temperature
pub record ComesOut (t : Taken) (x : Expected) : Type 0 where
  pub level_answer : (s : Strapped) → s.rows.now ≡ sealed t.rows → answered strapped_meaning s t.level ≡ Ok x.at_level
  pub water_answer : (s : Strapped) → s.rows.now ≡ sealed t.rows → answered strapped_meaning s t.water ≡ Ok x.at_water
  pub rule_answer : rule_answered api_meaning t.rule t.density ≡ Ok x.coefficient
  pub average_is : average t.elements t.water t.level ≡ x.temperature
  pub factor_is : wall_factor t.shell (offset x.temperature) ≡ x.factor
  pub gross_is : scaled (pos (x.at_level - x.at_water)) x.factor ≡ x.gross
  pub correction_is : correction (exponent (expansion x.coefficient (offset x.temperature))) ≡ x.correction
  pub standard_is : scaled x.gross x.correction ≡ x.standard
  pub plain_is : mass Plain x.standard t.density ≡ x.plain
  pub in_air_is : mass InAir x.standard t.density ≡ x.in_air

-- ---- the figures

pub data Figure : Type 0 where
  -- rows, a height, and the answer of their sealed table
  dip : List Row → ℕ → Result ℕ Refusal → Figure
  -- rows, a datum, a height, and the answer of their sealed table under that datum
  dip_under_datum : List Row → ℕ → ℕ → Result ℕ Refusal → Figure
  -- a rule, a density, and its answer
  coefficient : ApiRule → ℕ → Result ℕ Refusal → Figure
  -- the elements that count, the water, the level, and the average temperature of the liquid
  liquid : List CountingElement → ℕ → ℕ → ℤ → Figure
  -- a reading, and its figures
  reading : Taken → Expected → Figure

abbrev pub Holds : Figure → Type 0
Holds (dip rows h answer) = (t : Strapped) → t.rows.now ≡ sealed rows → answered strapped_meaning t h ≡ answer
Holds (dip_under_datum rows s h answer) = (t : RaisedDatum Strapped) → t.below.rows.now ≡ sealed rows → t.rise ≡ counted_rise s → answered (raised_meaning strapped_meaning) t h ≡ answer
Holds (coefficient rule r answer) = rule_answered api_meaning rule r ≡ answer
Holds (liquid es water level answer) = average es water level ≡ answer
Holds (reading taken expected) = ComesOut taken expected

abbrev row : ℕ → ℕ → Row
row height litres = record { height = height; litres = litres }

-- a tank of a litre in 0.4 mm, and one of 1,000,000 litres in 10 m
abbrev pub low : List Row
low = row 0 0 ∷ row 4 1 ∷ []

abbrev pub tall : List Row
tall = row 0 0 ∷ row 100000 1000000 ∷ []

abbrev element : ℕ → ℕ → CountingElement
element height hundredths = record { height = height; hundredths = pos hundredths }

-- at the level 55,555: a fourth element at 70,000 is above it and does not count
abbrev warmer_upward : List CountingElement
warmer_upward = element 10000 2400 ∷ element 30000 2500 ∷ element 50000 2600 ∷ []

abbrev evenly_warm : List CountingElement
evenly_warm = element 10000 2500 ∷ element 30000 2500 ∷ element 50000 2500 ∷ []

abbrev pub crude_taken : Taken
crude_taken = record { rows = tall; shell = 112; rule = Crude; density = 1700; elements = evenly_warm; water = 0; level = 55555 }

abbrev pub crude_expected : Expected
crude_expected = record {
  at_level = 5555500;
  at_water = 0;
  coefficient = 849788651;
  temperature = pos 250000000;
  factor = pos 1000224013;
  gross = pos 5556745;
  correction = pos 991480837;
  standard = pos 5509406;
  plain = pos 468300;
  in_air = pos 467693;
}

abbrev pub checked_figures : List Figure
checked_figures =
    dip low 1 (Ok 3)
    ∷ dip tall 100000 (Ok 10000000)
    ∷ dip tall 100001 (Err (not_covered 100001))
    ∷ dip_under_datum tall 10 99990 (Ok 10000000)
    ∷ dip_under_datum tall 10 99991 (Err (not_covered 99991))
    ∷ coefficient Crude 1700 (Ok 849788651)
    ∷ coefficient Crude 1221 (Ok 1647317990)
    ∷ coefficient Crude 1220 (Err (refusal DensityOutside (pos 1220)))
    ∷ coefficient Products 1540 (Ok 1154155507)
    ∷ coefficient Products 1541 (Ok 1151710581)
    ∷ coefficient Lubricants 2328 (Ok 539347079)
    ∷ liquid warmer_upward 0 55555 (pos 249199892)
    ∷ reading crude_taken crude_expected
    ∷ []
