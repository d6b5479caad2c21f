-- The meanings of the layers that stand above any table.
use Rattle.std.specs.Prelude.{ℕ, ◌+◌, ◌-◌, min}
use Rattle.std.proofs.Common.{arith}
use Rattle.measure.specs.Limits.{highest_level, largest_reach}
use Rattle.measure.specs.Fractions.{Fraction}
use Rattle.capacity.specs.declared.raised_datum.RaisedDatum.{RaisedDatum}
use Rattle.capacity.specs.declared.fill_limit.FillLimit.{FillLimit}
use Rattle.capacity.specs.Tables.{TableMeaning}

-- ---- a raised datum: the height h means h + rise below, and the reach is the rise less, or 0

-- a rise above every table counts as the largest reach
abbrev pub counted_rise : ℕ → ℕ
counted_rise s = min s largest_reach

abbrev pub raised_reach : {T : Type 0} → TableMeaning T → RaisedDatum T → ℕ
raised_reach m t = m.reach t.below - t.rise

abbrev pub raised_volume : {T : Type 0} → TableMeaning T → RaisedDatum T → ℕ → Fraction
raised_volume m t h = m.volume t.below (h + t.rise)

abbrev pub raised_meaning : {T : Type 0} → TableMeaning T → TableMeaning (RaisedDatum T)
raised_meaning m = record {
  reach = raised_reach m;
  volume = raised_volume m;
  laws = record {
    reach_most = λ t. omega (arith, m.laws.reach_most t.below);
    volume_least = λ t h covered. m.laws.volume_least t.below (h + t.rise) (omega arith);
    volume_most = λ t h covered. m.laws.volume_most t.below (h + t.rise) (omega arith);
    never_falls = λ t g h le covered. m.laws.never_falls t.below (g + t.rise) (h + t.rise) (omega arith) (omega arith);
  };
}

-- ---- a fill limit: the volumes below it are the table's, and the reach is the smaller of the limit + 1 and the table's

-- a limit above every level counts as the highest level
abbrev pub counted_limit : ℕ → ℕ
counted_limit f = min f highest_level

abbrev pub limited_reach : {T : Type 0} → TableMeaning T → FillLimit T → ℕ
limited_reach m t = min (t.limit + 1) (m.reach t.below)

abbrev pub limited_volume : {T : Type 0} → TableMeaning T → FillLimit T → ℕ → Fraction
limited_volume m t h = m.volume t.below h

abbrev pub limited_meaning : {T : Type 0} → TableMeaning T → TableMeaning (FillLimit T)
limited_meaning m = record {
  reach = limited_reach m;
  volume = limited_volume m;
  laws = record {
    reach_most = λ t. omega (arith, m.laws.reach_most t.below);
    volume_least = λ t h covered. m.laws.volume_least t.below h (omega arith);
    volume_most = λ t h covered. m.laws.volume_most t.below h (omega arith);
    never_falls = λ t g h le covered. m.laws.never_falls t.below g h le (omega arith);
  };
}
