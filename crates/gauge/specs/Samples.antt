-- The limits of a sample.
use Rattle.std.specs.Prelude.{ℕ, cond, ◌&&◌, ◌||◌, Some, None, Option, nat_le, nat_lt}
use Rattle.measure.specs.Limits.{highest_level}
use Rattle.gauge.specs.declared.sample.Signal.{Signal}
use Rattle.gauge.specs.declared.sample.Signal.TheVariants.{Level, Fault}
use Rattle.gauge.specs.declared.sample.Sample.{Sample}

-- instruments are 1 and 2, fault codes 1 to 255
abbrev pub last_instrument : ℕ
last_instrument = 2

abbrev pub last_fault_code : ℕ
last_fault_code = 255

abbrev pub signal_wrong : Signal → Option ℕ
signal_wrong (Level level) = cond (nat_le level highest_level) None (Some level)
signal_wrong (Fault code) = cond (nat_le 1 code && nat_le code last_fault_code) None (Some code)

-- the first number outside its limits: the instrument, then the level or the code
abbrev pub first_wrong : Sample → Option ℕ
first_wrong s = cond (nat_lt s.instrument 1 || nat_lt last_instrument s.instrument) (Some s.instrument) (signal_wrong s.signal)
