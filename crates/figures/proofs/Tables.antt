-- What a table answers depends on its rows and its datum alone.
use Rattle.std.proofs.Common.{◌≡◌, ℕ, ◌+◌, ◌-◌, List, Result, sym, subst}
use Rattle.measure.specs.declared.refusal.Refusal.{Refusal}
use Rattle.capacity.specs.declared.row.Row.{Row}
use Rattle.capacity.specs.Layers.{counted_rise}
use Rattle.capacity.specs.Rows.{sealed, rows_reach, rows_volume}
use Rattle.capacity.specs.Tables.{answer_of}
use Rattle.figures.specs.Figures.{Holds, dip, dip_under_datum}

pub by_rows : (rows : List Row) (h : ℕ) (answer : Result ℕ Refusal) → answer_of (rows_reach (sealed rows)) (rows_volume (sealed rows)) h ≡ answer → Holds (dip rows h answer)
by_rows rows h answer e = λ t is. subst (λ (rs : List Row). answer_of (rows_reach rs) (rows_volume rs) h ≡ answer) (sym is) e

pub by_rows_and_datum : (rows : List Row) (s h : ℕ) (answer : Result ℕ Refusal) → answer_of (rows_reach (sealed rows) - counted_rise s) (λ g. rows_volume (sealed rows) (g + counted_rise s)) h ≡ answer → Holds (dip_under_datum rows s h answer)
by_rows_and_datum rows s h answer e = λ t is raised.
    let at_rows = subst (λ (rs : List Row). answer_of (rows_reach rs - counted_rise s) (λ g. rows_volume rs (g + counted_rise s)) h ≡ answer) (sym is) e in
    subst (λ (n : ℕ). answer_of (rows_reach t.below.rows.now - n) (λ g. rows_volume t.below.rows.now (g + n)) h ≡ answer) (sym raised) at_rows
