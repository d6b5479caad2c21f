-- What a read may rely on: the limits of its parts' answers, and the liquid between water and level.
use Rattle.std.proofs.Common.{◌≡◌, ℕ, ◌<◌, ◌≤◌, true, ◌&&◌, ltb, leb, List, [], ◌∷◌, length, ℤ, pos, negsuc, nat_abs, ◌≤ℤ◌, Ok, refl, subst, not-suc-le-zero, arith}
use borrow.Author.Differences.{ints}
use Rattle.std.proofs.lemmas.Bool.{and_from, and_parts, leb-true, lt-ltb, le-leb}
use Rattle.std.proofs.lemmas.Bool.Decides.{nat_tests}
use Rattle.measure.specs.Fractions.{Fraction, natural, none, ◌⊗◌, ◌⊑◌}
use Rattle.measure.specs.Limits.{highest_level}
use Rattle.measure.specs.Rounding.{rounded_fraction}
use Rattle.measure.proofs.Rounds.{fraction_rounding}
use Rattle.product.specs.Rules.{least_density, greatest_density, RuleMeaning, answered, covered, million_millionths}
use Rattle.working.specs.declared.element.CountingElement.{CountingElement}
use Rattle.working.specs.Averages.{some_element, rising_from, liquid_right}
use Rattle.working.specs.Limits.{most_coefficient}

-- ---- the rule

size_below : (z : ℤ) (n : ℕ) → pos 0 ≤ℤ z → z ≤ℤ pos n → nat_abs z ≤ n
size_below (pos k) n low high = omega (arith, ints)
size_below (negsuc k) n low high = absurd (omega (arith, ints))

rounded_most : (x : Fraction) (n : ℕ) → none ⊑ x → x ⊑ natural n → nat_abs (rounded_fraction x) ≤ n
rounded_most x n least most =
    let low = subst (λ (z : ℤ). z ≤ℤ rounded_fraction x) (fraction_rounding.exact (pos 0)) (fraction_rounding.monotone none x least) in
    let high = subst (λ (z : ℤ). rounded_fraction x ≤ℤ z) (fraction_rounding.exact (pos n)) (fraction_rounding.monotone x (natural n) most) in
    size_below (rounded_fraction x) n low high

pub record RuleTold {P : Type 0} (m : RuleMeaning P) (p : P) (r n : ℕ) : Type 0 where
  pub within : covered m p r ≡ true
  pub value : n ≡ million_millionths (m.coefficient p r)

pub rule_told : {P : Type 0} (m : RuleMeaning P) (p : P) (r n : ℕ) → answered m p r ≡ Ok n → RuleTold m p r n
rule_told m p r n e = record { within = grind (arith, nat_tests, e); value = grind (arith, nat_tests, e) }

pub record RuleLimits (r n : ℕ) : Type 0 where
  pub coefficient_most : n ≤ most_coefficient
  pub density_least : least_density ≤ r
  pub density_most : r ≤ greatest_density

pub rule_limits : {P : Type 0} (m : RuleMeaning P) (p : P) (r n : ℕ) → answered m p r ≡ Ok n → RuleLimits r n
rule_limits m p r n e =
    let told = rule_told m p r n e in
    let parts = and_parts (leb (m.lowest p) r) (leb r (m.highest p)) told.within in
    let low = leb-true (m.lowest p) r parts.0 in
    let high = leb-true r (m.highest p) parts.1 in
    let a = m.coefficient p r in
    let least = m.laws.coefficient_least p r low high in
    let most = m.laws.coefficient_most p r low high in
    record {
      coefficient_most = omega (arith, told.value, rounded_most (natural 1000000000000 ⊗ a) most_coefficient (omega arith) (omega arith));
      density_least = omega (arith, low, m.laws.range_least p);
      density_most = omega (arith, high, m.laws.range_most p);
    }

-- ---- the liquid

some : (es : List CountingElement) → 0 < length es → some_element es ≡ true
some [] h = absurd (not-suc-le-zero h)
some (e ∷ es) h = refl

pub liquid_made : (es : List CountingElement) (water level : ℕ) → 0 < length es → water < level → level ≤ highest_level → rising_from water es level ≡ true → liquid_right es water level ≡ true
liquid_made es water level h wet within rising =
    and_from (some_element es && ltb water level && leb level highest_level) (rising_from water es level)
    (and_from (some_element es && ltb water level) (leb level highest_level)
    (and_from (some_element es) (ltb water level) (some es h) (lt-ltb water level wet)) (le-leb level highest_level within)) rising
