-- What a single instrument has heard.
use Rattle.std.specs.Prelude.{ℕ, Bool, true, cond, ◌&&◌, is_none, Some, None, Option, ◌==◌}
use Rattle.gauge.specs.declared.sample.Signal.{Signal}
use Rattle.gauge.specs.declared.sample.Sample.{Sample}
use Rattle.gauge.specs.Samples.{signal_wrong, first_wrong}

-- nothing, or a signal within its limits
abbrev pub heard_right : Option Signal → Bool
heard_right None = true
heard_right (Some signal) = is_none (signal_wrong signal)

-- its own number's last sample; others are passed over, and those outside their limits
abbrev pub heard_after : ℕ → Option Signal → Sample → Option Signal
heard_after number heard s = cond (s.instrument == number && is_none (first_wrong s)) (Some s.signal) heard
