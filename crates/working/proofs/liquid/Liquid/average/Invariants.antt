use Rattle.std.proofs.Common.{◌≡◌, ◌*◌, ◌≤◌, drop, ◌+ℤ◌}
use Rattle.working.proofs.Layers.{Laid, Summed, sum_above}
use Rattle.working.proofs.liquid.Liquid.average.Given as goal

-- what is summed and what is left make the whole sum, and what is left is laid from `from` on
abbrev pub invariant-loop-i : goal.invariant-loop-i
invariant-loop-i l =
    (l.sum +ℤ sum_above l.from (drop l.i l.self.elements.now) l.self.level ≡ sum_above (2 * l.self.water) l.self.elements.now l.self.level)
    × Laid l.from (drop l.i l.self.elements.now) l.self.level
    × (2 * l.self.water ≤ l.from) × (l.from ≤ 2 * l.self.level)
    × Summed (2 * l.self.water) l.from l.sum
