-- What a survey says of a tank: why no table can be made of it, or the table's reach and volumes.
use Rattle.std.specs.Prelude.{◌≡◌, ℕ, ◌+◌, ◌-◌, ◌*◌, ◌<◌, min, cond, Some, None, Ok, Err, Option, Result}
use Rattle.std.specs.Result.{result_err}
use Rattle.std.proofs.Common.{lit<}
use Rattle.measure.specs.declared.refusal.Refusal.{Refusal}
use Rattle.measure.specs.Fractions.{Fraction, over}
use Rattle.survey.specs.declared.tank.Survey.{Survey}
use Rattle.survey.specs.declared.tank.SurveyedTank.{SurveyedTank}
use Rattle.survey.specs.declared.tank.Shape.{Shape}
use Rattle.survey.specs.declared.tank.Shape.TheVariants.{Strapped, Upright}
use Rattle.capacity.specs.declared.fill_limit.FillLimit.{FillLimit}
use Rattle.capacity.specs.declared.raised_datum.RaisedDatum.{RaisedDatum}
use Rattle.survey.specs.declared.surveyed.Surveyed.{Surveyed}
use Rattle.capacity.specs.Rows.{examined, nothing_found, sealed, rows_reach, rows_volume}
use Rattle.capacity.specs.UprightTables.{upright_refusal, heights_per_metre}
use Rattle.capacity.specs.Layers.{counted_rise, counted_limit, raised_meaning, limited_meaning}
use Rattle.survey.specs.SurveyedTables.{surveyed_meaning}
use Rattle.capacity.specs.Tables.{TableMeaning, answer_of, answered}

-- why no table can be made of what was surveyed
abbrev pub shape_refusal : Shape → Option Refusal
shape_refusal (Strapped rows) = examined rows.now
shape_refusal (Upright height litres_per_metre) = upright_refusal height litres_per_metre

-- the heights below this are covered: none of a survey that is refused
abbrev pub shape_reach : Shape → ℕ
shape_reach (Strapped rows) = rows_reach (sealed rows.now)
shape_reach (Upright height litres_per_metre) = cond (nothing_found (upright_refusal height litres_per_metre)) (height + 1) 0

abbrev pub shape_volume : Shape → ℕ → Fraction
shape_volume (Strapped rows) h = rows_volume (sealed rows.now) h
shape_volume (Upright height litres_per_metre) h = over (h * litres_per_metre) heights_per_metre (lit< tt)

-- the kind of table that is made of every survey: the fill limit above the datum above the table
abbrev pub TankTable : Type 0
TankTable = FillLimit (RaisedDatum Surveyed)

abbrev pub tank_meaning : TableMeaning TankTable
tank_meaning = limited_meaning (raised_meaning surveyed_meaning)

-- the heights that a survey covers, and its volumes: the datum is added, and the fill limit cuts off
abbrev pub survey_reach : Survey → ℕ
survey_reach s = min (counted_limit s.limit + 1) (shape_reach s.shape - counted_rise s.datum)

abbrev pub survey_volume : Survey → ℕ → Fraction
survey_volume s h = shape_volume s.shape (h + counted_rise s.datum)

-- a table that covers the heights below `reach`, with these volumes
pub record Covers {T : Type 0} (m : TableMeaning T) (t : T) (reach : ℕ) (volume : ℕ → Fraction) : Type 0 where
  pub same_reach : m.reach t ≡ reach
  pub same_volume : (h : ℕ) → h < reach → m.volume t h ≡ volume h

-- a refusal of the survey is the answer to every dip
abbrev pub unless_refused : Option Refusal → Result ℕ Refusal → Result ℕ Refusal
unless_refused (Some e) answer = Err e
unless_refused None answer = answer

-- what a survey says that a dip answers
abbrev pub dipped : Survey → ℕ → Result ℕ Refusal
dipped s h = unless_refused (shape_refusal s.shape) (answer_of (survey_reach s) (survey_volume s) h)

-- why a surveyed tank has no table
abbrev pub tank_refusal : SurveyedTank → Option Refusal
tank_refusal t = result_err t.table

-- the heights that a tank's table covers: none where it has no table
abbrev pub reach_of : Result TankTable Refusal → ℕ
reach_of (Ok table) = tank_meaning.reach table
reach_of (Err e) = 0

abbrev pub tank_reach : SurveyedTank → ℕ
tank_reach t = reach_of t.table

abbrev pub answer_from : Result TankTable Refusal → ℕ → Result ℕ Refusal
answer_from (Ok table) h = answered tank_meaning table h
answer_from (Err e) h = Err e

-- what a surveyed tank answers to a dip
abbrev pub dip_answer : SurveyedTank → ℕ → Result ℕ Refusal
dip_answer t h = answer_from t.table h

-- a tank that was made of a survey is refused, reaches and answers as the survey says
pub record MadeOf (s : Survey) (t : SurveyedTank) : Type 0 where
  pub same_refusal : tank_refusal t ≡ shape_refusal s.shape
  pub same_reach : tank_reach t ≡ survey_reach s
  pub same_dips : (h : ℕ) → dip_answer t h ≡ dipped s h
