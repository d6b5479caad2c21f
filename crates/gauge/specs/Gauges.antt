-- What a gauge means and keeps.
use Rattle.std.specs.Prelude.{◌≡◌, ℕ, ◌≤◌, Some, Ok, Result}
use Rattle.measure.specs.Limits.{highest_level}
use Rattle.measure.specs.declared.refusal.Refusal.{Refusal}
use Rattle.gauge.specs.declared.sample.Sample.{Sample}
use Rattle.gauge.specs.Samples.{first_wrong}

pub record GaugeLaws {G : Type 0} (says : G → Result ℕ Refusal) (after : G → Sample → G) : Type 0 where
  -- a level that is said is within its limit
  pub level_most : (g : G) (level : ℕ) → says g ≡ Ok level → level ≤ highest_level
  -- a sample outside its limits changes nothing
  pub stays : (g : G) (s : Sample) (n : ℕ) → first_wrong s ≡ Some n → after g s ≡ g

-- what a gauge holds fixes what it says, and with a sample what it holds after
pub record GaugeMeaning (G : Type 0) : Type 0 where
  pub says : G → Result ℕ Refusal
  pub after : G → Sample → G
  pub laws : GaugeLaws says after
