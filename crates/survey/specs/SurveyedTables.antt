-- The meaning of a table of either kind: that of the table which it is.
use Rattle.std.specs.Prelude.{ℕ, ◌<◌, ◌≤◌}
use Rattle.measure.specs.Limits.{largest_reach, largest_litres}
use Rattle.measure.specs.Fractions.{Fraction, natural, none, ◌⊑◌}
use Rattle.survey.specs.declared.surveyed.Surveyed.{Surveyed}
use Rattle.survey.specs.declared.surveyed.Surveyed.TheVariants.{Strapped, Upright}
use Rattle.capacity.specs.StrappedTables.{strapped_meaning}
use Rattle.capacity.specs.UprightTables.{upright_meaning}
use Rattle.capacity.specs.Tables.{TableMeaning, TableLaws}

abbrev pub surveyed_reach : Surveyed → ℕ
surveyed_reach (Strapped s) = strapped_meaning.reach s
surveyed_reach (Upright u) = upright_meaning.reach u

abbrev pub surveyed_volume : Surveyed → ℕ → Fraction
surveyed_volume (Strapped s) h = strapped_meaning.volume s h
surveyed_volume (Upright u) h = upright_meaning.volume u h

reach_most : (t : Surveyed) → surveyed_reach t ≤ largest_reach
reach_most (Strapped s) = strapped_meaning.laws.reach_most s
reach_most (Upright u) = upright_meaning.laws.reach_most u

volume_least : (t : Surveyed) (h : ℕ) → h < surveyed_reach t → none ⊑ surveyed_volume t h
volume_least (Strapped s) h = strapped_meaning.laws.volume_least s h
volume_least (Upright u) h = upright_meaning.laws.volume_least u h

volume_most : (t : Surveyed) (h : ℕ) → h < surveyed_reach t → surveyed_volume t h ⊑ natural largest_litres
volume_most (Strapped s) h = strapped_meaning.laws.volume_most s h
volume_most (Upright u) h = upright_meaning.laws.volume_most u h

never_falls : (t : Surveyed) (g h : ℕ) → g ≤ h → h < surveyed_reach t → surveyed_volume t g ⊑ surveyed_volume t h
never_falls (Strapped s) g h = strapped_meaning.laws.never_falls s g h
never_falls (Upright u) g h = upright_meaning.laws.never_falls u g h

pub surveyed_laws : TableLaws surveyed_reach surveyed_volume
surveyed_laws = record { reach_most = reach_most; volume_least = volume_least; volume_most = volume_most; never_falls = never_falls }

abbrev pub surveyed_meaning : TableMeaning Surveyed
surveyed_meaning = record { reach = surveyed_reach; volume = surveyed_volume; laws = surveyed_laws }
