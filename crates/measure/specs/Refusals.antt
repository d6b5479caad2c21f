-- A refusal by its cause: the layer that refuses, the number, and the place.
use Rattle.std.specs.Prelude.{◌≡◌, ℕ, ℤ, Some, None, Option, ◌≢◌}
use Rattle.measure.specs.declared.refusal.Refusal.{Refusal}
use Rattle.measure.specs.declared.refusal.Cause.{Cause}
use Rattle.measure.specs.declared.refusal.Cause.TheVariants.{FaultHeld, NothingHeard, GateLost, SampleOutside, RowCount, FirstHeight, RowHeight, RowLitres, HeightNotCovered, UprightLimit, DensityOutside, CoefficientLimit, ElementNotFitted, ElementHeight, ProbeFull, NoElementCounts, MethodUnknown, DensityUnset, WaterAtLevel, DateNotLater, NothingCovered, ShellLimit, WaterLimit}

-- 1 is the layer of gauges, 2 that of probes, 3 that of capacity tables, 4 that of product rules, 5 that of the computer
abbrev pub layer_of : Cause → ℕ
layer_of FaultHeld = 1
layer_of NothingHeard = 1
layer_of GateLost = 1
layer_of SampleOutside = 1
layer_of RowCount = 3
layer_of FirstHeight = 3
layer_of RowHeight = 3
layer_of RowLitres = 3
layer_of HeightNotCovered = 3
layer_of UprightLimit = 3
layer_of DensityOutside = 4
layer_of CoefficientLimit = 4
layer_of ElementNotFitted = 2
layer_of ElementHeight = 2
layer_of ProbeFull = 2
layer_of NoElementCounts = 2
layer_of MethodUnknown = 5
layer_of DensityUnset = 5
layer_of WaterAtLevel = 5
layer_of DateNotLater = 5
layer_of NothingCovered = 5
layer_of ShellLimit = 5
layer_of WaterLimit = 5

abbrev pub number_of : Cause → ℕ
number_of FaultHeld = 10
number_of NothingHeard = 11
number_of GateLost = 12
number_of SampleOutside = 13
number_of RowCount = 20
number_of FirstHeight = 21
number_of RowHeight = 22
number_of RowLitres = 23
number_of HeightNotCovered = 24
number_of UprightLimit = 25
number_of DensityOutside = 30
number_of CoefficientLimit = 31
number_of ElementNotFitted = 40
number_of ElementHeight = 41
number_of ProbeFull = 42
number_of NoElementCounts = 43
number_of MethodUnknown = 50
number_of DensityUnset = 51
number_of WaterAtLevel = 52
number_of DateNotLater = 53
number_of NothingCovered = 54
number_of ShellLimit = 55
number_of WaterLimit = 56

abbrev pub refusal : Cause → ℤ → Refusal
refusal cause place = record { layer = layer_of cause; number = number_of cause; place = place }

-- the cause is the one that has the refusal's layer and number; there is none only where no cause has them
abbrev pub Names : Option Cause → Refusal → Type 0
Names (Some cause) r = (layer_of cause ≡ r.layer) × (number_of cause ≡ r.number)
Names None r = (cause : Cause) → layer_of cause ≡ r.layer → number_of cause ≢ r.number
