-- The limits of what a reading is worked out from, and of its figures.
use Rattle.std.specs.Prelude.{ℕ, Bool, ◌&&◌, ℤ, pos, negsuc, neg_ℤ, ◌≤ℤ◌, int_le}

-- a good element's temperature, in hundredths of a °C: −4,000 to 15,000
abbrev pub coldest_good : ℤ
coldest_good = negsuc 3999

abbrev pub warmest_good : ℤ
warmest_good = pos 15000

abbrev pub good_temperature : ℤ → Bool
good_temperature t = int_le coldest_good t && int_le t warmest_good

-- the shell coefficient, in units of 10^-7 per °C
abbrev pub largest_shell : ℕ
largest_shell = 300

-- what a capacity table answers, in tenths of a litre
abbrev pub most_tenths : ℕ
most_tenths = 2000000000

-- what a product rule answers, in units of 10^-12 per °C
abbrev pub most_coefficient : ℕ
most_coefficient = 2000000000

-- ---- the steps of the working

-- from −below to above
pub record Between (below above : ℕ) (z : ℤ) : Type 0 where
  pub least : neg_ℤ (pos below) ≤ℤ z
  pub most : z ≤ℤ pos above

-- an average of good temperatures, and how far it is from 15 °C, in ten-millionths of a °C
abbrev pub AverageWithin : ℤ → Type 0
AverageWithin t = Between 400000000 1500000000 t

abbrev pub OffsetWithin : ℤ → Type 0
OffsetWithin d = Between 550000000 1350000000 d

-- the product's expansion and the exponent, in units of 10^-9
abbrev pub ExpansionWithin : ℤ → Type 0
ExpansionWithin u = Between 110000000 270000000 u

abbrev pub ExponentWithin : ℤ → Type 0
ExponentWithin v = Between 110000000 330000000 v

-- the wall factor and the correction, in units of 10^-9
abbrev pub most_wall_factor : ℕ
most_wall_factor = 1009000000

abbrev pub least_correction : ℕ
least_correction = 500000000

abbrev pub most_correction : ℕ
most_correction = 1200000000

-- the gross and the standard volume in tenths of a litre, and the mass in kilograms
abbrev pub most_gross : ℕ
most_gross = 2018000000

abbrev pub most_standard : ℕ
most_standard = 2500000000

abbrev pub most_mass : ℕ
most_mass = 300000000
