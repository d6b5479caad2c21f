use Rattle.std.proofs.Common.{◌-◌, ◌*◌, ◌≤◌, mul-le-mul, arith}
use Rattle.working.specs.Limits.{most_tenths, most_gross, most_correction, most_standard}
use Rattle.working.proofs.observation.Observation.work_out.Goals as goal
use Rattle.working.proofs.observation.Observation.work_out.Goals.{After-correction-correction}

product_most : (c : goal.After-correction-correction) → c.scaled-gross.result * c.correction-correction.result ≤ most_gross * most_correction
product_most c =
    let o = c.args.self.now in
    let observed : o.at_level - o.at_water ≤ most_tenths = omega (arith, o.limits) in
    mul-le-mul (c.scaled-gross.ensures.bound most_gross (mul-le-mul observed c.wall_factor-wall_factor.ensures.bound)) c.correction-correction.ensures.most

pub scaled-standard-requires : goal.scaled-standard-requires
scaled-standard-requires c = omega (arith, product_most c)

pub mass-requires : goal.mass-requires
mass-requires c = (c.scaled-standard.ensures.bound most_standard (omega (arith, product_most (goal.at.mass-requires c).After-correction-correction)), c.args.self.now.limits.2)

pub invariant_of-result : goal.invariant_of-result
invariant_of-result c = record { limits = (c.scaled-standard.ensures.bound most_standard (omega (arith, product_most (goal.at.invariant_of-result c).After-correction-correction)), c.mass.ensures.bound) }
