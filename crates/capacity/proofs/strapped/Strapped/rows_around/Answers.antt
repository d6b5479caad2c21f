use Rattle.std.proofs.Common.{◌≡◌, ℕ, ◌+◌, ◌-◌, ◌/◌, ◌<◌, ◌≤◌, subst, arith}
use Rattle.capacity.specs.RowSearch.{row_at}
use Rattle.capacity.proofs.RowPlaces.{nowhere, heights_rise, beyond, around}
use Rattle.capacity.proofs.strapped.Strapped.rows_around.Goals as goal

pub returns-then-height-self : goal.returns-then-height-self
returns-then-height-self c =
    let rows = c.args.self.now.rows.now in
    beyond rows c.args.height (subst (λ (k : ℕ). (row_at rows k).height < c.args.height) c.in_ok-high.ensures.1 c.if-height-self.true)

pub loop-low-preserved-then-self-middle : goal.loop-low-preserved-then-self-middle
loop-low-preserved-then-self-middle c =
    let rows = c.args.self.now.rows.now in
    let middle = c.loop-low.low + (c.loop-low.high - c.loop-low.low) / 2 in (
      omega arith,
      omega arith,
      omega arith,
      c.loop-low.invariant.3,
      λ k some below. omega (arith, heights_rise rows c.args.self.now.examined k middle nowhere (omega arith) (omega arith)),
    )

pub returns : goal.returns
returns c =
    let rows = c.args.self.now.rows.now in
    let i = c.loop-low.invariant in
    let met : c.loop-low.high ≡ c.loop-low.low = omega (arith, i.1, c.loop-low-test.false) in
    around rows c.args.height c.loop-low.low c.args.self.now.examined i.0 (omega (arith, i.2, met))
    (subst (λ (k : ℕ). c.args.height ≤ (row_at rows k).height) met i.3)
    i.4
