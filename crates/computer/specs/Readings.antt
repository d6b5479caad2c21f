-- What a read answers: the first of six causes, or a reading with every figure by its rule.
use Rattle.std.specs.Prelude.{◌≡◌, ℕ, ◌-◌, not, List, ℤ, pos, Some, None, Ok, Err, Option, Result, count_ones, nat_le}
use Rattle.measure.specs.declared.refusal.Refusal.{Refusal}
use Rattle.measure.specs.declared.refusal.Cause.TheVariants.{DensityUnset, WaterAtLevel, NoElementCounts}
use Rattle.measure.specs.Refusals.{refusal}
use Rattle.capacity.specs.Tables.{tenths_of, answered}
use Rattle.product.specs.Rules.{million_millionths}
use Rattle.working.specs.declared.element.CountingElement.{CountingElement}
use Rattle.working.specs.Averages.{average, some_element}
use Rattle.working.specs.Methods.{method_of, mass}
use Rattle.working.specs.Steps.{offset, wall_factor, expansion, exponent, correction, scaled}
use Rattle.probe.specs.Counted.{counting, counting_word}
use Rattle.computer.specs.declared.reading.Reading.{Reading}
use Rattle.computer.specs.Ledgers.{Meanings, Ledger}
use Rattle.computer.specs.Calls.{first, refused_if, refusal_in}

abbrev unset : Option ℕ → Option Refusal
unset None = Some (refusal DensityUnset (pos 0))
unset (Some r) = None

-- the gauge's refusal, or what comes of its level
abbrev pub with_level : Result ℕ Refusal → (ℕ → Option Refusal) → Option Refusal
with_level (Err fault) rest = Some fault
with_level (Ok level) rest = rest level

module _ {G T P : Type 0} where
  -- ---- the causes, in their order

  -- the elements that count from the water up to a level
  abbrev pub counting_at : Ledger G T P → ℕ → List CountingElement
  counting_at l level = counting l.water level l.elements

  -- the method, the gauge, no density, a level that the table does not cover, water at the level, no element that counts
  abbrev pub read_refusal : Meanings G T P → Ledger G T P → ℕ → Option Refusal
  read_refusal m l method =
      first (refusal_in (method_of method))
      (with_level (m.gauge.says l.gauge) (λ level.
      first (unset l.density)
      (first (refusal_in (answered m.table l.table level))
      (first (refused_if (nat_le level l.water) WaterAtLevel l.water)
      (refused_if (not (some_element (counting_at l level))) NoElementCounts level)))))

  -- ---- the figures

  -- the table's answer at a height, in tenths of a litre
  abbrev pub tenths_at : Meanings G T P → Ledger G T P → ℕ → ℕ
  tenths_at m l height = tenths_of (m.table.volume l.table height)

  -- the rule's answer at a density, in units of 10^-12 per °C
  abbrev pub coefficient_at : Meanings G T P → Ledger G T P → ℕ → ℕ
  coefficient_at m l density = million_millionths (m.rule.coefficient l.rule density)

  -- the wall has the product's temperature
  abbrev pub gross_figure : Meanings G T P → Ledger G T P → ℕ → ℤ → ℤ
  gross_figure m l level temperature = scaled (pos (tenths_at m l level - tenths_at m l l.water)) (wall_factor l.shell (offset temperature))

  abbrev pub correction_figure : Meanings G T P → Ledger G T P → ℕ → ℤ → ℤ
  correction_figure m l density temperature = correction (exponent (expansion (coefficient_at m l density) (offset temperature)))

  -- a reading that carries what the ledger and the method give
  pub record Carries (m : Meanings G T P) (l : Ledger G T P) (method : ℕ) (x : Reading) : Type 0 where
    pub tank_is : x.tank ≡ l.tank
    pub date_is : x.date ≡ l.date
    pub method_is : method_of method ≡ Ok x.method
    pub density_is : l.density ≡ Some x.density
    pub level_is : m.gauge.says l.gauge ≡ Ok x.level
    pub water_is : x.water ≡ l.water
    pub temperature_is : x.temperature ≡ average (counting_at l x.level) l.water x.level
    pub correction_is : pos x.correction ≡ correction_figure m l x.density x.temperature
    pub gross_is : pos x.gross ≡ gross_figure m l x.level x.temperature
    pub standard_is : pos x.standard ≡ scaled (pos x.gross) (pos x.correction)
    pub mass_is : pos x.mass ≡ mass x.method (pos x.standard) x.density
    pub elements_is : x.elements ≡ counting_word l.water x.level l.elements
    pub count_is : x.count ≡ count_ones x.elements

  -- ---- the answer

  abbrev pub ReadAnswer : Meanings G T P → Ledger G T P → ℕ → Result Reading Refusal → Type 0
  ReadAnswer m l method (Ok x) = (read_refusal m l method ≡ None) × Carries m l method x
  ReadAnswer m l method (Err e) = read_refusal m l method ≡ Some e
