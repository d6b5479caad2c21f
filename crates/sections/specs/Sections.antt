-- The part of a journal that belongs to one survey.
use Rattle.std.specs.Prelude.{◌≡◌, ℕ, ◌+◌, Bool, true, false, List, [], ◌∷◌, length, Some, None, Option, MatchOption, take, drop, slice_get}
use Rattle.std.specs.Borrow.{Bor}
use Rattle.std.specs.List.{position, filter_map}
use Rattle.std.specs.Option.{unwrap_or}
use Rattle.measure.specs.Limits.{highest_level}
use Rattle.capacity.specs.declared.row.Row.{Row as TableRow}
use Rattle.survey.specs.declared.tank.Shape.{Shape}
use Rattle.survey.specs.declared.tank.Shape.TheVariants.{Strapped as StrappedShape, Upright as UprightShape}
use Rattle.journal.specs.declared.entry.Entry.{Entry}
use Rattle.journal.specs.declared.entry.Entry.TheVariants.{Strapped, Upright, Row, Datum, Limit, Dip}
use Rattle.journal.specs.declared.reader.NumberedEntry.{NumberedEntry}
use Rattle.sections.specs.declared.DatedSurvey.{DatedSurvey}
use Rattle.sections.specs.declared.Sections.{Sections}

-- ---- how far a section goes

abbrev pub begins_survey : Entry → Bool
begins_survey (Strapped date) = true
begins_survey (Upright date height litres_per_metre) = true
begins_survey (Row row) = false
begins_survey (Datum rise) = false
begins_survey (Limit limit) = false
begins_survey (Dip height) = false

-- how many entries stand before the next survey
abbrev pub entries_under : List NumberedEntry → ℕ
entries_under entries = unwrap_or (position (λ e. begins_survey e.entry) entries) (length entries)

-- a survey, and the entries under it
abbrev pub section_length : List NumberedEntry → ℕ
section_length [] = 0
section_length (e ∷ es) = 1 + entries_under es

-- the entries whose sections are still to come
abbrev pub entries_left : Sections → List NumberedEntry
entries_left sections = sections.rest.now

-- taking the next section of these entries gives this one, or none, and leaves these
abbrev pub GivesSection : List NumberedEntry → Option (Bor (List NumberedEntry)) → List NumberedEntry → Type 0
GivesSection entries section rest = MatchOption section (entries ≡ []) (λ s. s.now ≡ take (section_length entries) entries) × (rest ≡ drop (section_length entries) entries)

-- ---- its rows

abbrev pub row_of : Entry → Option TableRow
row_of (Strapped date) = None
row_of (Upright date height litres_per_metre) = None
row_of (Row row) = Some row
row_of (Datum rise) = None
row_of (Limit limit) = None
row_of (Dip height) = None

abbrev pub rows_in : List NumberedEntry → List TableRow
rows_in entries = filter_map (λ e. row_of e.entry) entries

-- ---- its layers

abbrev pub datum_of : Entry → Option ℕ
datum_of (Strapped date) = None
datum_of (Upright date height litres_per_metre) = None
datum_of (Row row) = None
datum_of (Datum rise) = Some rise
datum_of (Limit limit) = None
datum_of (Dip height) = None

abbrev pub limit_of : Entry → Option ℕ
limit_of (Strapped date) = None
limit_of (Upright date height litres_per_metre) = None
limit_of (Row row) = None
limit_of (Datum rise) = None
limit_of (Limit limit) = Some limit
limit_of (Dip height) = None

-- the first height that a section sets for a layer
abbrev pub first_height : (Entry → Option ℕ) → List NumberedEntry → Option ℕ
first_height height_of entries = slice_get (filter_map (λ e. height_of e.entry) entries) 0

-- ---- its survey

abbrev pub date_of : Entry → Option ℕ
date_of (Strapped date) = Some date
date_of (Upright date height litres_per_metre) = Some date
date_of (Row row) = None
date_of (Datum rise) = None
date_of (Limit limit) = None
date_of (Dip height) = None

-- the date of the survey that begins a section
abbrev pub section_date : List NumberedEntry → Option ℕ
section_date [] = None
section_date (e ∷ es) = date_of e.entry

-- what an entry surveyed: these rows, or the walls that it gives
abbrev surveyed_as : Entry → List TableRow → Shape → Type 0
surveyed_as (Strapped date) rows (StrappedShape held) = held.now ≡ rows
surveyed_as (Strapped date) rows (UprightShape height litres_per_metre) = ⊥
surveyed_as (Upright date h q) rows (StrappedShape held) = ⊥
surveyed_as (Upright date h q) rows (UprightShape height litres_per_metre) = (height ≡ h) × (litres_per_metre ≡ q)
surveyed_as (Row row) rows shape = ⊥
surveyed_as (Datum rise) rows shape = ⊥
surveyed_as (Limit limit) rows shape = ⊥
surveyed_as (Dip height) rows shape = ⊥

abbrev section_shape : List NumberedEntry → List TableRow → Shape → Type 0
section_shape [] rows shape = ⊥
section_shape (e ∷ es) rows shape = surveyed_as e.entry rows shape

-- a section's survey over rows: its date, what was surveyed, its datum and its fill limit
pub record SurveyOf (section : List NumberedEntry) (rows : List TableRow) (d : DatedSurvey) : Type 0 where
  pub dated : section_date section ≡ Some d.date
  pub shaped : section_shape section rows d.survey.shape
  pub raised : d.survey.datum ≡ unwrap_or (first_height datum_of section) 0
  pub limited : d.survey.limit ≡ unwrap_or (first_height limit_of section) highest_level
