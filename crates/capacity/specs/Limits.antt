-- The limits of the kinds of tables.
use Rattle.std.specs.Prelude.{ℕ}

-- rows of a strapped table
abbrev pub fewest_rows : ℕ
fewest_rows = 2

abbrev pub most_rows : ℕ
most_rows = 256

-- litres to the metre of an upright tank
abbrev pub most_litres_per_metre : ℕ
most_litres_per_metre = 5000000
