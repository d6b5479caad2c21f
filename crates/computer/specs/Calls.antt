-- The calls that change a ledger: the causes against each, in their order, and the ledger after it. A call with a cause
-- against it changes nothing.
use Rattle.std.specs.Prelude.{ℕ, Bool, cond, List, ℤ, pos, Some, None, Ok, Err, Option, Result, ◌==◌, nat_le, nat_lt}
use Rattle.measure.specs.declared.refusal.Refusal.{Refusal}
use Rattle.measure.specs.declared.refusal.Cause.{Cause}
use Rattle.measure.specs.declared.refusal.Cause.TheVariants.{SampleOutside, DateNotLater, NothingCovered, ShellLimit, WaterLimit}
use Rattle.measure.specs.Limits.{highest_level}
use Rattle.measure.specs.Refusals.{refusal}
use Rattle.gauge.specs.declared.sample.Sample.{Sample}
use Rattle.gauge.specs.Samples.{first_wrong}
use Rattle.product.specs.Rules.{answered}
use Rattle.working.specs.Limits.{largest_shell}
use Rattle.probe.specs.declared.element.ProbeElement.{ProbeElement}
use Rattle.probe.specs.Probes.{unless_refused, fit_refusal, hear_refusal}
use Rattle.probe.specs.Probes as Probe
use Rattle.computer.specs.Ledgers.{Meanings, Ledger}

-- the first of two refusals
abbrev pub first : Option Refusal → Option Refusal → Option Refusal
first (Some e) rest = Some e
first None rest = rest

abbrev pub refused_if : Bool → Cause → ℕ → Option Refusal
refused_if test cause place = cond test (Some (refusal cause (pos place))) None

-- the refusal of a part, as it came
abbrev pub refusal_in : {X : Type 0} → Result X Refusal → Option Refusal
refusal_in (Ok x) = None
refusal_in (Err e) = Some e

module _ {G T P : Type 0} where
  -- ---- adopt: the date is not later than the one in force; then: the table covers nothing

  abbrev pub adopt_refusal : Meanings G T P → Ledger G T P → T → ℕ → Option Refusal
  adopt_refusal m l table date = first (refused_if (nat_le date l.date) DateNotLater date) (refused_if (m.table.reach table == 0) NothingCovered date)

  abbrev pub after_adopt : Meanings G T P → Ledger G T P → T → ℕ → Ledger G T P
  after_adopt m l table date = unless_refused (adopt_refusal m l table date) l (record { tank = l.tank; date = date; table = table; gauge = l.gauge; rule = l.rule; elements = l.elements; density = l.density; shell = l.shell; water = l.water })

  -- ---- fit and element: as the probe says

  abbrev with_elements : Ledger G T P → List ProbeElement → Ledger G T P
  with_elements l elements = record { tank = l.tank; date = l.date; table = l.table; gauge = l.gauge; rule = l.rule; elements = elements; density = l.density; shell = l.shell; water = l.water }

  abbrev pub fit_refused : Ledger G T P → ℕ → Option Refusal
  fit_refused l height = fit_refusal l.elements height

  abbrev pub after_fit : Ledger G T P → ℕ → Ledger G T P
  after_fit l height = with_elements l (Probe.after_fit l.elements height)

  abbrev pub element_refused : Ledger G T P → ℕ → Option Refusal
  element_refused l n = hear_refusal l.elements n

  abbrev pub after_element : Ledger G T P → ℕ → ℤ → Ledger G T P
  after_element l n hundredths = with_elements l (Probe.after_hearing l.elements n hundredths)

  -- ---- density: the rule refuses it

  abbrev pub density_refused : Meanings G T P → Ledger G T P → ℕ → Option Refusal
  density_refused m l density = refusal_in (answered m.rule l.rule density)

  abbrev pub after_density : Meanings G T P → Ledger G T P → ℕ → Ledger G T P
  after_density m l density = unless_refused (density_refused m l density) l (record { tank = l.tank; date = l.date; table = l.table; gauge = l.gauge; rule = l.rule; elements = l.elements; density = Some density; shell = l.shell; water = l.water })

-- ---- sample: its first number outside the limits

abbrev outside : Option ℕ → Option Refusal
outside None = None
outside (Some n) = Some (refusal SampleOutside (pos n))

abbrev pub sample_refusal : Sample → Option Refusal
sample_refusal s = outside (first_wrong s)

abbrev pub after_sample : {G T P : Type 0} → Meanings G T P → Ledger G T P → Sample → Ledger G T P
after_sample m l s = unless_refused (sample_refusal s) l (record { tank = l.tank; date = l.date; table = l.table; gauge = m.gauge.after l.gauge s; rule = l.rule; elements = l.elements; density = l.density; shell = l.shell; water = l.water })

-- ---- shell and water: over their limits

abbrev pub shell_refused : ℕ → Option Refusal
shell_refused shell = refused_if (nat_lt largest_shell shell) ShellLimit shell

abbrev pub after_shell : {G T P : Type 0} → Ledger G T P → ℕ → Ledger G T P
after_shell l shell = unless_refused (shell_refused shell) l (record { tank = l.tank; date = l.date; table = l.table; gauge = l.gauge; rule = l.rule; elements = l.elements; density = l.density; shell = shell; water = l.water })

abbrev pub water_refused : ℕ → Option Refusal
water_refused water = refused_if (nat_lt highest_level water) WaterLimit water

abbrev pub after_water : {G T P : Type 0} → Ledger G T P → ℕ → Ledger G T P
after_water l water = unless_refused (water_refused water) l (record { tank = l.tank; date = l.date; table = l.table; gauge = l.gauge; rule = l.rule; elements = l.elements; density = l.density; shell = l.shell; water = water })
