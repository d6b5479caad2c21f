-- The meaning of the API rules: from the line of constants that covers the density r,
-- 10^12 times the coefficient is 10^8 × (4 × K0 + 2 × K1 × r) / r² + 10^4 × K2.
use Rattle.std.specs.Prelude.{◌≡◌, ℕ, zero, suc, ◌+◌, ◌*◌, ◌<◌, ◌≤◌, Bool, true, false, ◌&&◌, pos, ◌*ℤ◌, is_some, Some, None, Option, nat_le, unsigned_abs, refl}
use Rattle.std.proofs.Common.{sym, ap, subst, not-suc-le-zero, mul-pos, arith, lit<, lit≤, ⊎_elim}
use borrow.Author.Differences.{up, down, product_is}
use Rattle.std.proofs.lemmas.Bool.{and_parts, leb-true, cases_lt}
use Rattle.measure.specs.Fractions.{Fraction, none, whole, over, per, ◌⊕◌, ◌⊗◌, ◌⊑◌}
use Rattle.measure.specs.FractionLaws.{per_is}
use Rattle.product.specs.declared.api.ApiRule.{ApiRule}
use Rattle.product.specs.declared.api.ApiRule.TheVariants.{Crude, Products, Lubricants}
use Rattle.product.specs.declared.api.line.Line.{Line}
use Rattle.product.specs.Lines.{line_for}
use Rattle.product.specs.Rules.{greatest_density, largest_coefficient, RuleMeaning, RuleLaws}

-- ---- the coefficient

abbrev pub front : Line → ℕ → ℕ
front l r = 100000000 * (4 * l.k0 + 2 * l.k1 * r)

abbrev pub line_coefficient : Line → ℕ → Fraction
line_coefficient l r = (per (front l r) (r * r) ⊕ whole (pos 10000 *ℤ l.k2)) ⊗ over 1 1000000000000 (lit< tt)

abbrev pub coefficient_on : Option Line → ℕ → Fraction
coefficient_on (Some l) r = line_coefficient l r
coefficient_on None r = none

abbrev pub api_coefficient : ApiRule → ℕ → Fraction
api_coefficient rule r = coefficient_on (line_for rule r) r

-- ---- the range

abbrev pub lowest : ApiRule → ℕ
lowest Crude = 1221
lowest Products = 1306
lowest Lubricants = 1600

abbrev pub highest : ApiRule → ℕ
highest Crude = 2150
highest Products = 2150
highest Lubricants = 2328

-- ---- the rule over the whole table, by one test at every density

abbrev pub rise : Line → ℕ → ℕ
rise l r = front l r + up l.k2 * (10000 * (r * r))

abbrev pub fall : Line → ℕ → ℕ
fall l r = down l.k2 * (10000 * (r * r))

-- the coefficient is within 0 and 0.002, and the constants are small
abbrev pub bounded : Line → ℕ → Bool
bounded l r =
    nat_le (fall l r) (rise l r) && nat_le (rise l r) (2000000000 * (r * r) + fall l r)
    && nat_le l.k0 30000000 && nat_le l.k1 10000 && nat_le (unsigned_abs l.k2) 400000

abbrev pub bounded_on : Option Line → ℕ → Bool
bounded_on (Some l) r = bounded l r
bounded_on None r = true

abbrev pub alike : Bool → Bool → Bool
alike true b = b
alike false true = false
alike false false = true

-- a line covers a density exactly within the range, and gives it a coefficient within its limits
abbrev pub right_at : ApiRule → ℕ → Bool
right_at rule r = alike (is_some (line_for rule r)) (nat_le (lowest rule) r && nat_le r (highest rule)) && bounded_on (line_for rule r) r

abbrev all_below : (ℕ → Bool) → ℕ → Bool
all_below test zero = true
all_below test (suc n) = test n && all_below test n

table_right : (rule : ApiRule) → all_below (right_at rule) 2401 ≡ true
table_right Crude = refl
table_right Products = refl
table_right Lubricants = refl

below_at : (test : ℕ → Bool) (n k : ℕ) → all_below test n ≡ true → k < n → test k ≡ true
below_at test zero k h l = absurd (not-suc-le-zero l)
below_at test (suc n) k h l =
    let parts = and_parts (test n) (all_below test n) h in
    ⊎_elim (λ less. below_at test n k parts.1 less) (λ more. subst (λ (m : ℕ). test m ≡ true) {x = n} {y = k} (omega arith) parts.0) (cases_lt k n)

pub right : (rule : ApiRule) (r : ℕ) → r ≤ greatest_density → right_at rule r ≡ true
right rule r most = below_at (right_at rule) 2401 r (table_right rule) (omega arith)

-- ---- its limits

pub record Within (l : Line) (r : ℕ) : Type 0 where
  pub least : fall l r ≤ rise l r
  pub most : rise l r ≤ 2000000000 * (r * r) + fall l r
  pub k0_most : l.k0 ≤ 30000000
  pub k1_most : l.k1 ≤ 10000
  pub k2_most : unsigned_abs l.k2 ≤ 400000

pub within : (l : Line) (r : ℕ) → bounded l r ≡ true → Within l r
within l r h =
    let a = and_parts _ _ h in
    let b = and_parts _ _ a.0 in
    let c = and_parts _ _ b.0 in
    let d = and_parts _ _ c.0 in
    record { least = leb-true _ _ d.0; most = leb-true _ _ d.1; k0_most = leb-true _ _ c.1; k1_most = leb-true _ _ b.1; k2_most = leb-true _ _ a.1 }

-- the coefficient as one quotient
abbrev pub plain : Line → (r : ℕ) → 0 < r * r → Fraction
plain l r h = (over (front l r) (r * r) h ⊕ whole (pos 10000 *ℤ l.k2)) ⊗ over 1 1000000000000 (lit< tt)

pub line_is : (l : Line) (r : ℕ) (h : 0 < r * r) → line_coefficient l r ≡ plain l r h
line_is l r h = ap (λ (x : Fraction). (x ⊕ whole (pos 10000 *ℤ l.k2)) ⊗ over 1 1000000000000 (lit< tt)) (per_is (front l r) (r * r) h)

plain_least : (l : Line) (r : ℕ) (h : 0 < r * r) → Within l r → none ⊑ plain l r h
plain_least l r h w =
    let k2 = product_is (pos 10000) l.k2 in
    let least = w.least in
    omega (arith, ap (λ (n : ℕ). n * (r * r)) k2.0, ap (λ (n : ℕ). n * (r * r)) k2.1)

plain_most : (l : Line) (r : ℕ) (h : 0 < r * r) → Within l r → plain l r h ⊑ largest_coefficient
plain_most l r h w =
    let k2 = product_is (pos 10000) l.k2 in
    let most = w.most in
    omega (arith, ap (λ (n : ℕ). n * (r * r)) k2.0, ap (λ (n : ℕ). n * (r * r)) k2.1)

on_least : (found : Option Line) (r : ℕ) → 0 < r * r → bounded_on found r ≡ true → none ⊑ coefficient_on found r
on_least None r h b = omega arith
on_least (Some l) r h b = subst (λ (x : Fraction). none ⊑ x) (sym (line_is l r h)) (plain_least l r h (within l r b))

on_most : (found : Option Line) (r : ℕ) → 0 < r * r → bounded_on found r ≡ true → coefficient_on found r ⊑ largest_coefficient
on_most None r h b = omega arith
on_most (Some l) r h b = subst (λ (x : Fraction). x ⊑ largest_coefficient) (sym (line_is l r h)) (plain_most l r h (within l r b))

-- ---- the meaning

pub range_least : (rule : ApiRule) → 1000 ≤ lowest rule
range_least Crude = lit≤ tt
range_least Products = lit≤ tt
range_least Lubricants = lit≤ tt

pub range_most : (rule : ApiRule) → highest rule ≤ greatest_density
range_most Crude = lit≤ tt
range_most Products = lit≤ tt
range_most Lubricants = lit≤ tt

not_empty : (rule : ApiRule) → lowest rule ≤ highest rule
not_empty Crude = lit≤ tt
not_empty Products = lit≤ tt
not_empty Lubricants = lit≤ tt

pub square_some : (r : ℕ) → 0 < r → 0 < r * r
square_some r h = mul-pos h h

pub bounded_there : (rule : ApiRule) (r : ℕ) → r ≤ greatest_density → bounded_on (line_for rule r) r ≡ true
bounded_there rule r most = (and_parts _ _ (right rule r most)).1

coefficient_least : (rule : ApiRule) (r : ℕ) → lowest rule ≤ r → r ≤ highest rule → none ⊑ api_coefficient rule r
coefficient_least rule r low high =
    let least = range_least rule in
    let most = range_most rule in
    on_least (line_for rule r) r (square_some r (omega arith)) (bounded_there rule r (omega arith))

coefficient_most : (rule : ApiRule) (r : ℕ) → lowest rule ≤ r → r ≤ highest rule → api_coefficient rule r ⊑ largest_coefficient
coefficient_most rule r low high =
    let least = range_least rule in
    let most = range_most rule in
    on_most (line_for rule r) r (square_some r (omega arith)) (bounded_there rule r (omega arith))

pub api_laws : RuleLaws lowest highest api_coefficient
api_laws = record { range_least = range_least; range_most = range_most; not_empty = not_empty; coefficient_least = coefficient_least; coefficient_most = coefficient_most }

abbrev pub api_meaning : RuleMeaning ApiRule
api_meaning = record { lowest = lowest; highest = highest; coefficient = api_coefficient; laws = api_laws }
