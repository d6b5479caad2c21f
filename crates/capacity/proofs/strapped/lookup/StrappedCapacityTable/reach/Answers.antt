use Rattle.std.proofs.Common.{rules, arith}
use Rattle.std.proofs.lemmas.Grind.{common_steps}
use Rattle.capacity.specs.StrappedTables.{strapped_laws}
use Rattle.capacity.proofs.RowPlaces.{ReachByLast, reach_by_last}
use Rattle.capacity.proofs.strapped.lookup.StrappedCapacityTable.reach.Goals as goal
use Rattle.capacity.proofs.strapped.lookup.StrappedCapacityTable.reach.Goals.{After-last}

told : (c : After-last) → ReachByLast c.args.self.now.rows.now c.last.result
told c = reach_by_last c.args.self.now.rows.now c.last.result c.last.ensures.value

pub map_or-requires : goal.map_or-requires
map_or-requires c =
    let most = strapped_laws.reach_most c.args.self.now in
    let last = told (goal.at.map_or-requires c).After-last in
    grind (arith, common_steps, last)

pub returns : goal.returns
returns c =
    let last = told (goal.at.returns c).After-last in
    search (rules, last)
