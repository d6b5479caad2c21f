-- The same number is rounded alike, however it is written.
use Rattle.std.proofs.Common.{◌≡◌, ℕ, pos, nat_abs, ap, ◌∙◌, arith}
use borrow.Author.Differences.{ints}
use Rattle.measure.specs.Fractions.{Fraction, whole, ◌≃◌}
use Rattle.measure.specs.FractionLaws.{≃→⊑, ≃_sym}
use Rattle.measure.specs.Rounding.{rounded_fraction}
use Rattle.measure.proofs.Rounds.{fraction_rounding}

pub rounded_same : (x y : Fraction) → x ≃ y → rounded_fraction x ≡ rounded_fraction y
rounded_same x y e =
    let up = fraction_rounding.monotone x y (≃→⊑ x y e) in
    let down = fraction_rounding.monotone y x (≃→⊑ y x (≃_sym x y e)) in
    omega (arith, ints, up, down)

pub rounded_whole : (x : Fraction) (n : ℕ) → x ≃ whole (pos n) → nat_abs (rounded_fraction x) ≡ n
rounded_whole x n e = ap nat_abs (rounded_same x (whole (pos n)) e ∙ fraction_rounding.exact (pos n))
