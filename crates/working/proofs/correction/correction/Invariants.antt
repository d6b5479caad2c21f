use Rattle.std.proofs.Common.{◌≡◌}
use Rattle.working.specs.Steps.{correction, correction_from}
use Rattle.working.proofs.Sizes.{Corrected}
use Rattle.working.proofs.correction.correction.Given as goal

-- what is left of the steps gives the correction
abbrev pub invariant-loop-k : goal.invariant-loop-k
invariant-loop-k l = (correction_from l.v l.k l.p ≡ correction l.v) × Corrected l.p
