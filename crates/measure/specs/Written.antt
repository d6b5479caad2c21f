-- What is written: a size, with a minus before it where the number is below zero.
use Rattle.std.specs.Prelude.{ℤ, pos, neg_ℤ, if◌then◌else◌}
use Rattle.measure.specs.declared.tenths.Tenths.{Tenths}

abbrev pub number_written : Tenths → ℤ
number_written written = if written.below_zero then neg_ℤ (pos written.size) else pos written.size
