-- The meaning of a strapped table.
use Rattle.std.specs.Prelude.{◌≡◌, ℕ, ◌<◌, ◌≤◌, true, List, [], ◌∷◌}
use Rattle.std.proofs.Common.{not-suc-le-zero, arith, lit≤}
use Rattle.measure.specs.Limits.{largest_reach, largest_litres}
use Rattle.measure.specs.Fractions.{Fraction, natural, none, ◌⊑◌}
use Rattle.measure.specs.FractionLaws.{⊑_trans}
use Rattle.capacity.specs.declared.row.Row.{Row}
use Rattle.capacity.specs.declared.strapped.Strapped.{Strapped}
use Rattle.capacity.specs.Rows.{sound, rows_reach, rows_volume}
use Rattle.capacity.specs.RowLaws.{first_sound, reach_most, volume_least, volume_most, volume_rises}
use Rattle.capacity.specs.Tables.{TableMeaning, TableLaws}

-- ---- sound rows keep the laws of a table

rows_reach_most : (rows : List Row) → sound rows ≡ true → rows_reach rows ≤ largest_reach
rows_reach_most [] s = lit≤ tt
rows_reach_most (first ∷ rows) s =
    let f = first_sound first rows s in
    let zero_first = f.at_zero in
    reach_most 1 first rows (omega arith) f.above

rows_volume_least : (rows : List Row) (h : ℕ) → sound rows ≡ true → h < rows_reach rows → none ⊑ rows_volume rows h
rows_volume_least [] h s covered = absurd (not-suc-le-zero covered)
rows_volume_least (first ∷ rows) h s covered =
    ⊑_trans none (natural first.litres) (rows_volume (first ∷ rows) h) (omega arith)
    (volume_least 1 first rows h (first_sound first rows s).above)

rows_volume_most : (rows : List Row) (h : ℕ) → sound rows ≡ true → h < rows_reach rows → rows_volume rows h ⊑ natural largest_litres
rows_volume_most [] h s covered = absurd (not-suc-le-zero covered)
rows_volume_most (first ∷ rows) h s covered =
    let f = first_sound first rows s in
    volume_most 1 first rows h f.litres_within f.above

rows_never_fall : (rows : List Row) (g h : ℕ) → sound rows ≡ true → g ≤ h → h < rows_reach rows → rows_volume rows g ⊑ rows_volume rows h
rows_never_fall [] g h s le covered = absurd (not-suc-le-zero covered)
rows_never_fall (first ∷ rows) g h s le covered = volume_rises 1 first rows g h le (first_sound first rows s).above

-- ---- the meaning

abbrev pub strapped_reach : Strapped → ℕ
strapped_reach t = rows_reach t.rows.now

abbrev pub strapped_volume : Strapped → ℕ → Fraction
strapped_volume t h = rows_volume t.rows.now h

pub strapped_laws : TableLaws strapped_reach strapped_volume
strapped_laws = record {
  reach_most = λ t. rows_reach_most t.rows.now t.examined;
  volume_least = λ t h. rows_volume_least t.rows.now h t.examined;
  volume_most = λ t h. rows_volume_most t.rows.now h t.examined;
  never_falls = λ t g h. rows_never_fall t.rows.now g h t.examined;
}

abbrev pub strapped_meaning : TableMeaning Strapped
strapped_meaning = record { reach = strapped_reach; volume = strapped_volume; laws = strapped_laws }
