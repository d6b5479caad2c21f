-- The ledger of a tank computer: what it knows, kept from what commissioning was given and the calls alone.
use Rattle.std.specs.Prelude.{◌≡◌, ℕ, ◌≤◌, true, List, [], length, Some, None, Option}
use Rattle.capacity.specs.Tables.{TableMeaning}
use Rattle.gauge.specs.Gauges.{GaugeMeaning}
use Rattle.product.specs.Rules.{RuleMeaning, covered}
use Rattle.working.specs.Limits.{largest_shell}
use Rattle.probe.specs.declared.element.ProbeElement.{ProbeElement}
use Rattle.probe.specs.Elements.{right_from}
use Rattle.probe.specs.Probes.{most_elements}

-- what the gauge, the capacity table and the product rule of a computer mean
pub record Meanings (G T P : Type 0) : Type 0 where
  pub gauge : GaugeMeaning G
  pub table : TableMeaning T
  pub rule : RuleMeaning P

abbrev pub meanings : {G T P : Type 0} → GaugeMeaning G → TableMeaning T → RuleMeaning P → Meanings G T P
meanings g t p = record { gauge = g; table = t; rule = p }

pub record Ledger (G T P : Type 0) : Type 0 where
  pub tank : ℕ
  -- of the survey in force, and its table
  pub date : ℕ
  pub table : T
  -- the gauge with what it holds
  pub gauge : G
  pub rule : P
  -- the probe elements that are fitted, from the bottom up
  pub elements : List ProbeElement
  pub density : Option ℕ
  pub shell : ℕ
  pub water : ℕ

-- what a computer that was just commissioned knows
abbrev pub commissioned : {G T P : Type 0} → ℕ → G → T → ℕ → P → Ledger G T P
commissioned tank gauge table date rule = record { tank = tank; date = date; table = table; gauge = gauge; rule = rule; elements = []; density = None; shell = 0; water = 0 }

-- the density, where one was set, is one that the rule covers: it is refused otherwise
abbrev pub covered_density : {P : Type 0} → RuleMeaning P → P → Option ℕ → Type 0
covered_density m rule None = Unit {0}
covered_density m rule (Some r) = covered m rule r ≡ true

abbrev pub DensityCovered : {G T P : Type 0} → Meanings G T P → Ledger G T P → Type 0
DensityCovered m l = covered_density m.rule l.rule l.density

-- what holds of every computer: its density and its shell coefficient were admitted, and so was each element of its
-- probe, which are sixteen at most
pub record Admitted {P : Type 0} (m : RuleMeaning P) (rule : P) (density : Option ℕ) (shell : ℕ) (elements : List ProbeElement) : Type 0 where
  pub density_is_covered : covered_density m rule density
  pub shell_is_within : shell ≤ largest_shell
  pub elements_are_few : length elements ≤ most_elements
  pub elements_stand : right_from 0 elements ≡ true

abbrev pub LedgerAdmitted : {G T P : Type 0} → RuleMeaning P → Ledger G T P → Type 0
LedgerAdmitted m l = Admitted m l.rule l.density l.shell l.elements
