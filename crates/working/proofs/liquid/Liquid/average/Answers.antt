use Rattle.std.proofs.Common.{◌≡◌, ℕ, ◌+◌, ◌-◌, ◌*◌, ◌<◌, ◌≤◌, List, get_or, drop, ℤ, pos, ◌+ℤ◌, ◌*ℤ◌, ◌≤ℤ◌, sym, ap, ◌∙◌, subst, arith, rules, lit<, w32, w64, SFits, to_z, of_z}
use Rattle.std.proofs.lemmas.Int.{ints, to_z-of_z}
use Rattle.std.proofs.lemmas.List.{at_drop_all}
use Rattle.measure.specs.Rounding.{rounded}
use Rattle.working.specs.Averages.{weights, total, average}
use Rattle.working.specs.Limits.{coldest_good, warmest_good}
use Rattle.working.specs.declared.element.CountingElement.{CountingElement}
use Rattle.working.proofs.Ranges.{fits, product_between}
use Rattle.working.proofs.Layers.{nothing, Summed, liquid_parts, sum_above, Layer, layer_at, summed_more}
use Rattle.working.proofs.Averaged.{weights_total, average_least, average_most}
use Rattle.working.proofs.liquid.Liquid.average.Goals as goal
use Rattle.working.proofs.liquid.Liquid.average.Goals.{After-from-in-loop-i, After-from-weights, After-rounded_signed_quotient}

pub loop-i-init : goal.loop-i-init
loop-i-init c =
    let self = c.args.self.now in
    let parts = liquid_parts self.elements.now self.water self.level self.right in
    (omega (arith, ints), parts.laid, omega arith, omega arith, record { least = omega (arith, ints); most = omega (arith, ints) })

-- what the layer adds, and the sum with it
record Added (c : goal.After-from-in-loop-i) : Type 0 where
  here : Layer c.args.self.now.elements.now c.loop-i.i c.loop-i.from c.map_or-to.result c.args.self.now.level
  value : to_z w64 (of_z w64 c.from.result) *ℤ to_z w64 (of_z w64 c.from-in-loop-i.result) ≡ pos (c.map_or-to.result - c.loop-i.from) *ℤ (get_or c.args.self.now.elements.now c.loop-i.i nothing).hundredths
  small : SFits w64 (pos (c.map_or-to.result - c.loop-i.from) *ℤ (get_or c.args.self.now.elements.now c.loop-i.i nothing).hundredths)
  sum : Summed (2 * c.args.self.now.water) c.map_or-to.result (c.loop-i.sum +ℤ (pos (c.map_or-to.result - c.loop-i.from) *ℤ (get_or c.args.self.now.elements.now c.loop-i.i nothing).hundredths))
  fits : SFits w64 (c.loop-i.sum +ℤ (pos (c.map_or-to.result - c.loop-i.from) *ℤ (get_or c.args.self.now.elements.now c.loop-i.i nothing).hundredths))

added : (c : goal.After-from-in-loop-i) → Added c
added c =
    let self = c.args.self.now in
    let es = self.elements.now in
    let low = 2 * self.water in
    let from = c.loop-i.from in
    let to = c.map_or-to.result in
    let t = (get_or es c.loop-i.i nothing).hundredths in
    let here = layer_at es c.loop-i.i from self.level c.loop-i.invariant.1 to c.loop-i-test.true (λ above. search rules) (λ last. search rules) in
    let g = here.good in
    let parts = liquid_parts es self.water self.level self.right in
    let e : SFits w32 t = omega (arith, ints) in
    let f : SFits w64 c.from.result = search rules in
    let h : SFits w64 c.from-in-loop-i.result = search rules in
    let weight = c.from.ensures in
    let heat : c.from-in-loop-i.result ≡ t = simp to_z-of_z at c.from-in-loop-i.ensures in
    let size = product_between (to - from) 800000 4000 15000 t (omega arith) g in
    let so_far : Summed low from c.loop-i.sum = subst (λ (x : ℤ). Summed low from x) c.loop-i.sum-is c.loop-i.invariant.4 in
    let sum = summed_more low from to c.loop-i.sum t c.loop-i.invariant.2 here.rises g so_far in
    record {
      here = here;
      value = simp to_z-of_z (ap (λ (x : ℤ). x *ℤ c.from-in-loop-i.result) weight ∙ ap (λ (x : ℤ). pos (to - from) *ℤ x) heat);
      small = fits size (lit< tt);
      sum = sum;
      fits = omega (arith, ints);
    }

pub overflow_mul-sum : goal.overflow_mul-sum
overflow_mul-sum c = let a = added c in rw a.value a.small

pub overflow_add-sum : goal.overflow_add-sum
overflow_add-sum c =
    let a = added c in
    let f = a.small in
    simp (a.value, to_z-of_z, c.loop-i.sum-is) a.fits

pub loop-i-preserved : goal.loop-i-preserved
loop-i-preserved c =
    let self = c.args.self.now in
    let es = self.elements.now in
    let to = c.map_or-to.result in
    let a = added c in
    let here = a.here in
    let f = a.small in
    let g = a.fits in
    let same = c.loop-i.sum-is in
    let before : c.loop-i.sum +ℤ sum_above c.loop-i.from (drop c.loop-i.i es) self.level ≡ sum_above (2 * self.water) es self.level = simp same at c.loop-i.invariant.0 in
    let after : (c.loop-i.sum +ℤ (pos (to - c.loop-i.from) *ℤ (get_or es c.loop-i.i nothing).hundredths)) +ℤ sum_above to (drop (c.loop-i.i + 1) es) self.level ≡ sum_above (2 * self.water) es self.level = omega (arith, ints) in
    let low = c.loop-i.invariant.2 in
    simp (a.value, same, to_z-of_z) (after, here.laid, omega arith, here.within, a.sum)

-- ---- the quotient

-- the whole sum and the whole weight
record Whole (c : goal.After-from-weights) : Type 0 where
  value : c.loop-i.sum ≡ sum_above (2 * c.args.self.now.water) c.args.self.now.elements.now c.args.self.now.level
  weight : c.from-weights.result ≡ total (weights c.args.self.now.elements.now c.args.self.now.water c.args.self.now.level)
  some : 0 < c.from-weights.result
  few : c.from-weights.result ≤ 800000
  least : (pos c.from-weights.result *ℤ coldest_good) ≤ℤ c.loop-i.sum
  most : c.loop-i.sum ≤ℤ (pos c.from-weights.result *ℤ warmest_good)

whole : (c : goal.After-from-weights) → Whole c
whole c =
    let self = c.args.self.now in
    let es = self.elements.now in
    let parts = liquid_parts es self.water self.level self.right in
    let same = c.loop-i.sum-is in
    let before : c.loop-i.sum +ℤ sum_above c.loop-i.from (drop c.loop-i.i es) self.level ≡ sum_above (2 * self.water) es self.level = simp same at c.loop-i.invariant.0 in
    let none : sum_above c.loop-i.from (drop c.loop-i.i es) self.level ≡ pos 0 = at_drop_all (λ (rest : List CountingElement). sum_above c.loop-i.from rest self.level) es c.loop-i.i c.loop-i-test.false in
    let sum : Summed (2 * self.water) c.loop-i.from c.loop-i.sum = subst (λ (x : ℤ). Summed (2 * self.water) c.loop-i.from x) same c.loop-i.invariant.4 in
    let weight = c.from-weights.ensures in
    let from = c.loop-i.invariant.3 in
    record {
      value = omega (arith, ints);
      weight = weight ∙ sym (weights_total es self.water self.level self.right);
      some = omega arith;
      few = omega arith;
      least = omega (arith, ints);
      most = omega (arith, ints);
    }

quotient : (c : goal.After-rounded_signed_quotient) → c.rounded_signed_quotient.result ≡ rounded (pos 100000 *ℤ c.loop-i.sum) c.from-weights.result
quotient c =
    let w = whole (goal.at.invariant_of-result c).After-from-weights in
    let same = c.loop-i.sum-is in
    let fits : SFits w64 (pos 100000 *ℤ c.loop-i.sum) = omega (arith, ints) in
    simp (same, to_z-of_z) at c.rounded_signed_quotient.ensures

pub invariant_of-result : goal.invariant_of-result
invariant_of-result c =
    let w = whole (goal.at.invariant_of-result c).After-from-weights in
    let r = c.rounded_signed_quotient.result in
    let f : SFits w64 r = search rules in
    let value = quotient c in
    let l = average_least 100000 c.from-weights.result coldest_good c.loop-i.sum w.some w.least in
    let m = average_most 100000 c.from-weights.result warmest_good c.loop-i.sum w.some w.most in
    record { within = simp to_z-of_z (record { least = omega (arith, ints); most = omega (arith, ints) }) }

pub returns : goal.returns
unfolding average
returns c =
    let after = (goal.at.returns c).After-rounded_signed_quotient in
    let w = whole (goal.at.returns c).After-from-weights in
    let self = c.args.self.now in
    let whole_sum = sum_above (2 * self.water) self.elements.now self.level in
    let f : SFits w64 c.rounded_signed_quotient.result = search rules in
    let value : c.rounded_signed_quotient.result ≡ rounded (pos 100000 *ℤ c.loop-i.sum) c.from-weights.result = quotient after in
    simp to_z-of_z (value ∙ ap (λ (x : ℤ). rounded (pos 100000 *ℤ x) c.from-weights.result) w.value ∙ ap (λ (n : ℕ). rounded (pos 100000 *ℤ whole_sum) n) w.weight)
