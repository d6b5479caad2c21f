-- The laws of answers, for every kind of table.
use Rattle.std.proofs.Common.{◌≡◌, ℕ, ◌*◌, ◌<◌, ◌≤◌, ℤ, pos, nat_abs, ◌≤ℤ◌, Ok, sym, ap, ◌∙◌, subst, subst₂, arith}
use borrow.Author.Differences.{ints}
use Rattle.std.proofs.lemmas.Bool.Decides.{nat_tests}
use Rattle.measure.specs.Fractions.{Fraction, natural, none, whole, one_half, ten, ◌⊗◌, ◌⊑◌, Within}
use Rattle.measure.specs.Limits.{largest_litres}
use Rattle.measure.specs.Rounding.{rounded_fraction}
use Rattle.measure.proofs.Rounds.{fraction_rounding}
use Rattle.table_laws.specs.AnswerLaws.{AnswerLaws}
use Rattle.capacity.specs.Tables.{TableMeaning, tenths_of, answered}

-- what an answer says of its height
pub told : {T : Type 0} (m : TableMeaning T) (t : T) (h n : ℕ) → answered m t h ≡ Ok n → (h < m.reach t) × (n ≡ tenths_of (m.volume t h))
told m t h n e = grind (arith, nat_tests, e)

size_back : (z : ℤ) → pos 0 ≤ℤ z → pos (nat_abs z) ≡ z
size_back z h = omega (arith, ints)

-- a volume that is not negative is rounded to its tenths
tenths_whole : (v : Fraction) → none ⊑ v → pos (tenths_of v) ≡ rounded_fraction (ten ⊗ v)
tenths_whole v least =
    let zero_first : rounded_fraction none ≤ℤ rounded_fraction (ten ⊗ v) = fraction_rounding.monotone none (ten ⊗ v) (omega arith) in
    let above : pos 0 ≤ℤ rounded_fraction (ten ⊗ v) = subst (λ (z : ℤ). z ≤ℤ rounded_fraction (ten ⊗ v)) (fraction_rounding.exact (pos 0)) zero_first in
    size_back (rounded_fraction (ten ⊗ v)) above

tenfold : (x y : Fraction) → x ⊑ y → ten ⊗ x ⊑ ten ⊗ y
tenfold x y le = omega arith

module _ {T : Type 0} (m : TableMeaning T) where
  near : (t : T) (h n : ℕ) → answered m t h ≡ Ok n → Within one_half (natural n) (ten ⊗ m.volume t h)
  near t h n e =
      let answer = told m t h n e in
      let v = m.volume t h in
      let same = tenths_whole v (m.laws.volume_least t h answer.0) in
      let half = fraction_rounding.near (ten ⊗ v) in
      subst (λ (z : ℤ). Within one_half (whole z) (ten ⊗ v)) (sym (ap (λ (k : ℕ). pos k) answer.1 ∙ same)) half

  never_falls : (t : T) (g h k n : ℕ) → g ≤ h → answered m t g ≡ Ok k → answered m t h ≡ Ok n → k ≤ n
  never_falls t g h k n le low high =
      let lower = told m t g k low in
      let higher = told m t h n high in
      let rises = fraction_rounding.monotone (ten ⊗ m.volume t g) (ten ⊗ m.volume t h) (tenfold (m.volume t g) (m.volume t h) (m.laws.never_falls t g h le higher.0)) in
      let below = tenths_whole (m.volume t g) (m.laws.volume_least t g lower.0) in
      let above = tenths_whole (m.volume t h) (m.laws.volume_least t h higher.0) in
      let order : pos (tenths_of (m.volume t g)) ≤ℤ pos (tenths_of (m.volume t h)) = subst₂ (λ (x y : ℤ). x ≤ℤ y) (sym below) (sym above) rises in
      omega (arith, ints, lower.1, higher.1)

  most : (t : T) (h n : ℕ) → answered m t h ≡ Ok n → n ≤ 10 * largest_litres
  most t h n e =
      let answer = told m t h n e in
      let v = m.volume t h in
      let limit = fraction_rounding.monotone (ten ⊗ v) (natural (10 * largest_litres)) (let top = m.laws.volume_most t h answer.0 in omega arith) in
      let exactly = fraction_rounding.exact (pos (10 * largest_litres)) in
      let order : pos (tenths_of v) ≤ℤ pos (10 * largest_litres) = subst₂ (λ (x y : ℤ). x ≤ℤ y) (sym (tenths_whole v (m.laws.volume_least t h answer.0))) exactly limit in
      omega (arith, ints, answer.1)

  pub answer_laws : AnswerLaws m
  answer_laws = record {
    served = λ t h below. (tenths_of (m.volume t h), grind (arith, nat_tests));
    refused = λ t h above. grind (arith, nat_tests);
    near = near;
    never_falls = never_falls;
    most = most;
  }
