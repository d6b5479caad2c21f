-- The laws of the average.
use Rattle.std.proofs.Common.{◌≡◌, ℕ, ◌+◌, ◌-◌, ◌*◌, ◌<◌, true, List, [], ◌∷◌, ℤ, pos, ◌+ℤ◌, ◌*ℤ◌, ◌≤ℤ◌, sym, subst, arith}
use borrow.Author.Differences.{ints}
use Rattle.std.specs.Int.{int_min, int_max}
use Rattle.std.proofs.lemmas.Int.{clamps}
use Rattle.measure.specs.Rounding.{rounded}
use Rattle.working.specs.declared.element.CountingElement.{CountingElement}
use Rattle.working.specs.Averages.{weights_from, weights, total, weighted, average, liquid_right}
use Rattle.working.specs.AverageLaws.{coldest, warmest, AverageLaws}
use Rattle.working.proofs.Ranges.{multiple_keeps, regrouped, rounded_least, rounded_most}
use Rattle.working.proofs.Layers.{Laid, liquid_parts, sum_above}

-- ---- the weights

total_from : (from : ℕ) (e : CountingElement) (es : List CountingElement) (level : ℕ) → Laid from (e ∷ es) level → from + total (weights_from from (e ∷ es) level) ≡ 2 * level
total_from from e [] level laid = omega arith
total_from from e (next ∷ es) level laid = omega (arith, total_from (e.height + next.height) next es level laid.3)

pub weights_total : (es : List CountingElement) (water level : ℕ) → liquid_right es water level ≡ true → total (weights es water level) ≡ 2 * (level - water)
weights_total [] water level h = grind (arith, h)
weights_total (e ∷ es) water level h = let p = liquid_parts (e ∷ es) water level h in omega (arith, total_from (2 * water) e es level p.laid)

pub total_some : (es : List CountingElement) (water level : ℕ) → liquid_right es water level ≡ true → 0 < total (weights es water level)
total_some es water level h = let p = (liquid_parts es water level h).water_below in omega (arith, weights_total es water level h)

-- ---- between the coldest and the warmest

lesser : (a b : ℤ) → (int_min a b ≤ℤ a) × (int_min a b ≤ℤ b)
lesser a b = (omega (arith, ints, clamps), omega (arith, ints, clamps))

greater : (a b : ℤ) → (a ≤ℤ int_max a b) × (b ≤ℤ int_max a b)
greater a b = (omega (arith, ints, clamps), omega (arith, ints, clamps))

-- a share n of one and t of the rest, each at least c, is at least n + t of c
share_least : (n t : ℕ) (c a b w : ℤ) → c ≤ℤ a → c ≤ℤ b → (pos t *ℤ b) ≤ℤ w → (pos (n + t) *ℤ c) ≤ℤ ((pos n *ℤ a) +ℤ w)
share_least n t c a b w ca cb bw = omega (arith, ints, multiple_keeps n c a ca, multiple_keeps t c b cb)

share_most : (n t : ℕ) (c a b w : ℤ) → a ≤ℤ c → b ≤ℤ c → w ≤ℤ (pos t *ℤ b) → ((pos n *ℤ a) +ℤ w) ≤ℤ (pos (n + t) *ℤ c)
share_most n t c a b w ca cb bw = omega (arith, ints, multiple_keeps n a c ca, multiple_keeps t b c cb)

sum_least : (from : ℕ) (es : List CountingElement) (level : ℕ) → (pos (total (weights_from from es level)) *ℤ coldest es) ≤ℤ sum_above from es level
sum_least from [] level = omega (arith, ints)
sum_least from (e ∷ []) level = omega (arith, ints)
sum_least from (e ∷ (next ∷ es)) level =
    let to = e.height + next.height in
    let c = lesser e.hundredths (coldest (next ∷ es)) in
    share_least (to - from) (total (weights_from to (next ∷ es) level)) (coldest (e ∷ (next ∷ es))) e.hundredths (coldest (next ∷ es)) (sum_above to (next ∷ es) level)
    c.0 c.1 (sum_least to (next ∷ es) level)

sum_most : (from : ℕ) (es : List CountingElement) (level : ℕ) → sum_above from es level ≤ℤ (pos (total (weights_from from es level)) *ℤ warmest es)
sum_most from [] level = omega (arith, ints)
sum_most from (e ∷ []) level = omega (arith, ints)
sum_most from (e ∷ (next ∷ es)) level =
    let to = e.height + next.height in
    let c = greater e.hundredths (warmest (next ∷ es)) in
    share_most (to - from) (total (weights_from to (next ∷ es) level)) (warmest (e ∷ (next ∷ es))) e.hundredths (warmest (next ∷ es)) (sum_above to (next ∷ es) level)
    c.0 c.1 (sum_most to (next ∷ es) level)

-- an average lies where the sum does
pub average_least : (k t : ℕ) (c w : ℤ) → 0 < t → (pos t *ℤ c) ≤ℤ w → (pos k *ℤ c) ≤ℤ rounded (pos k *ℤ w) t
average_least k t c w some le =
    rounded_least (pos k *ℤ c) (pos k *ℤ w) t some (subst (λ (x : ℤ). x ≤ℤ (pos k *ℤ w)) (sym (regrouped k t c)) (multiple_keeps k (pos t *ℤ c) w le))

pub average_most : (k t : ℕ) (c w : ℤ) → 0 < t → w ≤ℤ (pos t *ℤ c) → rounded (pos k *ℤ w) t ≤ℤ (pos k *ℤ c)
average_most k t c w some le =
    rounded_most (pos k *ℤ w) (pos k *ℤ c) t some (subst (λ (x : ℤ). (pos k *ℤ w) ≤ℤ x) (sym (regrouped k t c)) (multiple_keeps k w (pos t *ℤ c) le))

pub average_laws : AverageLaws
unfolding average
average_laws = record {
  weights_add_up = weights_total;
  not_colder = λ es water level h. average_least 100000 (total (weights es water level)) (coldest es) (weighted (weights es water level) es) (total_some es water level h) (sum_least (2 * water) es level);
  not_warmer = λ es water level h. average_most 100000 (total (weights es water level)) (warmest es) (weighted (weights es water level) es) (total_some es water level h) (sum_most (2 * water) es level);
}
