-- What the whole-number working of a line answers is its exact coefficient, rounded.
use Rattle.std.proofs.Common.{◌≡◌, ℕ, ◌+◌, ◌-◌, ◌*◌, ◌<◌, ◌≤◌, true, leb, ℤ, pos, ◌*ℤ◌, nat_abs, Some, Ok, Option, Result, sym, ap, ◌∙◌, subst, arith}
use borrow.Author.Differences.{ints, up, down, product_is}
use Rattle.std.proofs.lemmas.Bool.{and_parts, leb-true}
use Rattle.std.proofs.lemmas.Bool.Decides.{nat_tests}
use Rattle.measure.specs.declared.refusal.Refusal.{Refusal}
use Rattle.measure.specs.Fractions.{natural, over, numerator, ◌⊗◌, ◌≃◌}
use Rattle.measure.specs.Rounding.{rounded, rounded_fraction}
use Rattle.product.specs.declared.api.ApiRule.{ApiRule}
use Rattle.product.specs.declared.api.line.Line.{Line}
use Rattle.product.specs.declared.api.ApiRule.TheVariants.{Crude, Products, Lubricants}
use Rattle.product.specs.Lines.{line_for}
use Rattle.product.specs.Rules.{greatest_density, million_millionths, covered, answered}
use Rattle.product.specs.ApiRules.{front, rise, fall, lowest, highest, range_least, range_most, square_some, plain, line_coefficient, line_is, coefficient_on, api_coefficient, bounded_on, Within, within, bounded_there, api_meaning}
use Rattle.product.proofs.Rounded.{rounded_same}

-- the exact coefficient times 10^12 is the quotient of the working
same_quotient : (l : Line) (r n : ℕ) (h : 0 < r * r) → Within l r → n ≡ rise l r - fall l r → natural 1000000000000 ⊗ plain l r h ≃ over n (r * r) h
same_quotient l r n h w e =
    let k2 = product_is (pos 10000) l.k2 in
    let least = w.least in
    let whole_n : n + fall l r ≡ rise l r = omega arith in
    let parts : n + down (pos 10000 *ℤ l.k2) * (r * r) ≡ front l r + up (pos 10000 *ℤ l.k2) * (r * r) =
    omega (arith, ap (λ (m : ℕ). m * (r * r)) k2.0, ap (λ (m : ℕ). m * (r * r)) k2.1) in
    omega (arith, ap (λ (m : ℕ). m * (r * r * 1000000000000)) parts)

api_value : (l : Line) (r n q : ℕ) (h : 0 < r * r) → Within l r → n ≡ rise l r - fall l r → pos q ≡ rounded (pos n) (r * r) → q ≡ million_millionths (line_coefficient l r)
api_value l r n q h w e told =
    let y = over n (r * r) h in
    let above : numerator y ≡ pos n = omega (arith, ints) in
    let same : rounded_fraction (natural 1000000000000 ⊗ plain l r h) ≡ rounded (pos n) (r * r) = rounded_same (natural 1000000000000 ⊗ plain l r h) y (same_quotient l r n h w e) ∙ ap (λ (a : ℤ). rounded a (r * r)) above in
    ap nat_abs told ∙ sym (ap nat_abs same) ∙ sym (ap million_millionths (line_is l r h))

-- ---- a line that was found

found_covers : (rule : ApiRule) (r : ℕ) (l : Line) → line_for rule r ≡ Some l → covered api_meaning rule r ≡ true
found_covers Crude r l e = grind (arith, nat_tests, e)
found_covers Products r l e = grind (arith, nat_tests, e)
found_covers Lubricants r l e = grind (arith, nat_tests, e)

found_here : (rule : ApiRule) (r : ℕ) (l : Line) → line_for rule r ≡ Some l → Within l r × (r ≤ greatest_density) × (0 < r * r)
found_here rule r l e =
    let range = and_parts (leb (lowest rule) r) (leb r (highest rule)) (found_covers rule r l e) in
    let least = leb-true _ _ range.0 in
    let most : r ≤ greatest_density = omega (arith, leb-true _ _ range.1, range_most rule) in
    (within l r (subst (λ (o : Option Line). bounded_on o r ≡ true) e (bounded_there rule r most)), most, square_some r (omega (arith, range_least rule)))

-- what the working may ask of it
pub found_limits : (rule : ApiRule) (density r : ℕ) (l : Line) → line_for rule density ≡ Some l → r ≡ density → Within l r × (r ≤ greatest_density) × (0 < r * r)
found_limits rule density r l e same =
    subst (λ (m : ℕ). Within l m × (m ≤ greatest_density) × (0 < m * m)) (sym same) (found_here rule density l e)

-- what the working answers by it
pub found_answer : (rule : ApiRule) (density r n q : ℕ) (l : Line) → line_for rule density ≡ Some l → r ≡ density
    → n ≡ rise l r - fall l r → pos q ≡ rounded (pos n) (r * r) → Ok q ≡ answered api_meaning rule density
found_answer rule density r n q l e same difference told =
    let limits = found_limits rule density r l e same in
    let value = api_value l r n q limits.2 limits.0 difference told in
    let there : line_coefficient l r ≡ api_coefficient rule density = ap (line_coefficient l) same ∙ ap (λ (o : Option Line). coefficient_on o density) (sym e) in
    let say : ℕ → Result ℕ Refusal = λ k. Ok k in
    rw (found_covers rule density l e) (ap say (value ∙ ap million_millionths there))
