use Rattle.std.proofs.Common.{◌-◌, ◌≤◌, length, drop, ◌∙◌, rules, arith}
use Rattle.std.proofs.lemmas.List.{take_all, length-drop}
use Rattle.std.proofs.iter.Yields.{fronts}
use Rattle.std.specs.Iterator.Adapters.{enumerate_steps}
use Rattle.std.proofs.lemmas.Iterator.{YieldsList, zips, YieldsList-from_slice, YieldsList-from_zip}
use Rattle.std.proofs.lemmas.Iterator.Consumers.{YieldsList-from_enumerate, YieldsList-at}
use Rattle.std.proofs.lemmas.Iterator.Adapters.{serves_from_places}
use Rattle.capacity.specs.Limits.{fewest_rows, most_rows}
use Rattle.capacity.proofs.FindMap.{first_from_find_map}
use Rattle.capacity.proofs.RowTests.{neighbours, place_inside, upper_refusal, examined_from}
use Rattle.capacity.proofs.draft.Draft.examine.Goals as goal
use Rattle.capacity.proofs.draft.Draft.examine.Goals.{After-enumerate}

road : (c : After-enumerate) → YieldsList (enumerate_steps (zips fronts fronts)) (λ p. (p.0, (p.1.0.now, p.1.1.now))) c.enumerate.result (neighbours c.args.self.now.rows.now)
road c =
    let rows = c.args.self.now.rows.now in
    YieldsList-from_enumerate (YieldsList-at c.enumerate.ensures.source (YieldsList-from_zip (YieldsList-from_slice rows (cc)) (YieldsList-from_slice (drop 1 rows) (c.zip.ensures.second.0 ∙ take_all (length rows - 1) (drop 1 rows) (omega (arith, length-drop 1 rows)))))) (cc)

pub find_map-requires-clause-callable : goal.find_map-requires-clause-callable
find_map-requires-clause-callable c =
    serves_from_places (road (goal.at.find_map-requires-clause-callable c).After-enumerate) (λ x q r. search rules) (λ x k inside e.
    let here = place_inside c.args.self.now.rows.now k _ inside e in
    let few : length c.args.self.now.rows.now ≤ most_rows = search rules in
    (λ _ _ _ _ _. omega arith, λ _ _ _ _ _ _ _ _. omega arith))

pub returns : goal.returns
returns c =
    let told = first_from_find_map upper_refusal (road (goal.at.returns c).After-enumerate) (λ x o q k. search rules) c.find_map.result c.find_map.ensures.runs in
    let rows = c.args.self.now.rows.now in
    let few : fewest_rows ≤ length rows = search rules in
    let many : length rows ≤ most_rows = search rules in
    told ∙ examined_from rows few many c.if-first-ne0.false c.if-first-gt-LARGEST_LITRES.false
