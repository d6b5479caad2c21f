-- Where a line may stand: under a survey come its rows, then at most one datum, at most one limit, and dips.
use Rattle.std.specs.Prelude.{Ok, Err, Result}
use Rattle.journal.specs.declared.entry.Entry.{Entry}
use Rattle.journal.specs.declared.entry.Entry.TheVariants.{Strapped, Upright, Row, Datum, Limit, Dip}
use Rattle.journal.specs.declared.place.Stage.{Stage}
use Rattle.journal.specs.declared.place.Stage.TheVariants.{Start, Rows, Walls, Datum as AfterDatum, Limit as AfterLimit, Dips}
use Rattle.journal.specs.declared.verb.Verb.TheVariants.{Row as RowVerb, Datum as DatumVerb, Limit as LimitVerb, Dip as DipVerb}
use Rattle.journal.specs.declared.wrong.Wrong.{Wrong}
use Rattle.journal.specs.declared.wrong.Wrong.TheVariants.{OutOfPlace}

-- rows stand under a strapped survey and other rows
abbrev row_place : Stage → Result Stage Wrong
row_place Start = Err (OutOfPlace RowVerb)
row_place Rows = Ok Rows
row_place Walls = Err (OutOfPlace RowVerb)
row_place AfterDatum = Err (OutOfPlace RowVerb)
row_place AfterLimit = Err (OutOfPlace RowVerb)
row_place Dips = Err (OutOfPlace RowVerb)

-- a datum stands under what was surveyed
abbrev datum_place : Stage → Result Stage Wrong
datum_place Start = Err (OutOfPlace DatumVerb)
datum_place Rows = Ok AfterDatum
datum_place Walls = Ok AfterDatum
datum_place AfterDatum = Err (OutOfPlace DatumVerb)
datum_place AfterLimit = Err (OutOfPlace DatumVerb)
datum_place Dips = Err (OutOfPlace DatumVerb)

-- a limit stands under what was surveyed, or under the datum
abbrev limit_place : Stage → Result Stage Wrong
limit_place Start = Err (OutOfPlace LimitVerb)
limit_place Rows = Ok AfterLimit
limit_place Walls = Ok AfterLimit
limit_place AfterDatum = Ok AfterLimit
limit_place AfterLimit = Err (OutOfPlace LimitVerb)
limit_place Dips = Err (OutOfPlace LimitVerb)

-- a dip stands anywhere under a survey
abbrev dip_place : Stage → Result Stage Wrong
dip_place Start = Err (OutOfPlace DipVerb)
dip_place Rows = Ok Dips
dip_place Walls = Ok Dips
dip_place AfterDatum = Ok Dips
dip_place AfterLimit = Ok Dips
dip_place Dips = Ok Dips

-- a survey may begin anywhere
abbrev pub placed : Stage → Entry → Result Stage Wrong
placed stage (Strapped date) = Ok Rows
placed stage (Upright date height litres_per_metre) = Ok Walls
placed stage (Row row) = row_place stage
placed stage (Datum rise) = datum_place stage
placed stage (Limit limit) = limit_place stage
placed stage (Dip height) = dip_place stage
