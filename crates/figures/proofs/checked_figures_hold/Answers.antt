use Rattle.std.proofs.Common.{refl}
use Rattle.measure.specs.Rounding.{nearest}
use Rattle.working.specs.Averages.{average}
use Rattle.working.specs.Steps.{wall_factor, expansion, exponent, correction, scaled, plain_mass, mass_in_air}
use Rattle.figures.specs.Figures.{ComesOut, low, tall, crude_taken, crude_expected}
use Rattle.figures.proofs.Tables.{by_rows, by_rows_and_datum}
use Rattle.figures.proofs.checked_figures_hold.Goals as goal

crude_comes_out : ComesOut crude_taken crude_expected
unfolding nearest average wall_factor expansion exponent correction scaled plain_mass mass_in_air
crude_comes_out = record {
  level_answer = by_rows tall 55555 _ refl;
  water_answer = by_rows tall 0 _ refl;
  rule_answer = refl;
  average_is = refl;
  factor_is = refl;
  gross_is = refl;
  correction_is = refl;
  standard_is = refl;
  plain_is = refl;
  in_air_is = refl;
}

-- in the order of the list
pub returns : goal.returns
unfolding nearest average
returns c = (
  by_rows low 1 _ refl,
  (
    by_rows tall 100000 _ refl,
    (
      by_rows tall 100001 _ refl,
      (
        by_rows_and_datum tall 10 99990 _ refl,
        (
          by_rows_and_datum tall 10 99991 _ refl,
          (refl, (refl, (refl, (refl, (refl, (refl, (refl, (crude_comes_out, tt)))))))),
        ),
      ),
    ),
  ),
)
