-- The meaning of an upright tank: h × q / 10,000 litres at the height h, for q litres to the metre.
use Rattle.std.specs.Prelude.{ℕ, ◌+◌, ◌*◌, ◌≤◌, cond, pos, Some, None, Option, nat_lt}
use Rattle.std.proofs.Common.{mul-le-mul, mul-le-mul_right, arith, lit<}
use Rattle.measure.specs.declared.refusal.Refusal.{Refusal}
use Rattle.measure.specs.declared.refusal.Cause.TheVariants.{UprightLimit}
use Rattle.measure.specs.Refusals.{refusal}
use Rattle.measure.specs.Limits.{highest_level}
use Rattle.capacity.specs.Limits.{most_litres_per_metre}
use Rattle.measure.specs.Fractions.{Fraction, over}
use Rattle.capacity.specs.declared.upright.Upright.{Upright}
use Rattle.capacity.specs.Tables.{TableMeaning, TableLaws}

-- why an upright tank is not made: the height is asked before the litres
abbrev pub upright_refusal : ℕ → ℕ → Option Refusal
upright_refusal height litres_per_metre =
    cond (nat_lt highest_level height) (Some (refusal UprightLimit (pos height)))
    (cond (nat_lt most_litres_per_metre litres_per_metre) (Some (refusal UprightLimit (pos litres_per_metre))) None)

-- a metre has 10,000 tenths of a millimetre
abbrev pub heights_per_metre : ℕ
heights_per_metre = 10000

abbrev pub upright_reach : Upright → ℕ
upright_reach t = t.height + 1

abbrev pub upright_volume : Upright → ℕ → Fraction
upright_volume t h = over (h * t.litres_per_metre) heights_per_metre (lit< tt)

pub upright_laws : TableLaws upright_reach upright_volume
upright_laws = record {
  reach_most = λ t. let limits = t.limits in omega arith;
  volume_least = λ t h covered. omega arith;
  volume_most = λ t h covered.
      let limits = t.limits in
      let low : h ≤ highest_level = omega arith in
      omega (arith, mul-le-mul low limits.1);
  never_falls = λ t g h le covered. omega (arith, mul-le-mul_right t.litres_per_metre le);
}

abbrev pub upright_meaning : TableMeaning Upright
upright_meaning = record { reach = upright_reach; volume = upright_volume; laws = upright_laws }
