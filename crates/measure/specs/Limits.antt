-- The limits of heights and volumes.
use Rattle.std.specs.Prelude.{ℕ}

-- heights and levels, in tenths of a millimetre
abbrev pub highest_level : ℕ
highest_level = 400000

-- a table covers the heights below its reach
abbrev pub largest_reach : ℕ
largest_reach = 400001

-- the litres of a table
abbrev pub largest_litres : ℕ
largest_litres = 200000000
