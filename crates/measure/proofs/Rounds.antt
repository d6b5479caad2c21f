-- The laws of the rounding. Other crates cite `rounding_laws`.
use Rattle.std.proofs.Common.{◌≡◌, ℕ, zero, suc, ◌+◌, ◌*◌, ◌<◌, ◌≤◌, ℤ, pos, negsuc, ◌*ℤ◌, neg_ℤ, nat_abs, ◌≤ℤ◌, ◌<ℤ◌, sym, refl, ap, ◌∙◌, mul-le-mul_right, mul-le-mul_left, le_of_mul-le-mul_right, arith, lit<}
use lib.IntN.{neg_ℤ-neg_ℤ}
use borrow.Author.Differences.{ints, up, down, sum_is_lem, neg_is}
use Rattle.measure.specs.Fractions.{Fraction, quotient, whole, numerator, negated, one_half, ◌⊑◌, ◌≃◌, Within}
use Rattle.measure.specs.FractionLaws.{⊑-≃, ≃-⊑, ≃_sym, ≃_within, within-≃, whole_negated, within_negated}
use Rattle.measure.specs.Rounding.{nearest, rounded, rounded_fraction}
use Rattle.measure.specs.RoundingLaws.{RoundingLaws, FractionRounding}
use Rattle.measure.proofs.Nearest.{nearest_is, nearest_low, nearest_high, nearest_most}

near_size : (n d : ℕ) (h : 0 < d) → Within one_half (whole (pos (nearest n d))) (quotient (pos n) d h)
near_size n d h =
    let low = nearest_low n d h in
    let high = nearest_high n d h in
    record { below = omega arith; above = omega arith }

near : (a : ℤ) (d : ℕ) (h : 0 < d) → Within one_half (whole (rounded a d)) (quotient a d h)
near (pos n) d h = near_size n d h
near (negsuc n) d h =
    let q : ℤ = pos (nearest (suc n) d) in
    ≃_within one_half (whole (neg_ℤ q)) (negated (whole q)) (quotient (negsuc n) d h) (whole_negated q)
    (within_negated one_half (whole q) (quotient (pos (suc n)) d h) (near_size (suc n) d h))

-- sizes keep their order: n / c ≤ m / d
keeps_order : (n m c d : ℕ) → 0 < c → 0 < d → n * d ≤ m * c → nearest n c ≤ nearest m d
keeps_order n m c d h k le =
    let q = nearest n c in
    let low : q * (2 * c) * d ≤ (2 * n + c) * d = mul-le-mul_right d (nearest_low n c h) in
    let both : q * (2 * d) * c ≤ (2 * m + d) * c = omega arith in
    nearest_most m d q k (le_of_mul-le-mul_right both h)

monotone : (a b : ℤ) (c d : ℕ) (h : 0 < c) (k : 0 < d) → quotient a c h ⊑ quotient b d k → rounded a c ≤ℤ rounded b d
monotone (pos n) (pos m) c d h k le = let q = keeps_order n m c d h k (omega arith) in omega (arith, ints)
monotone (pos n) (negsuc m) c d h k le = let size : 1 * c ≤ suc m * c = mul-le-mul_right c (omega arith) in absurd (omega arith)
monotone (negsuc n) (pos m) c d h k le = omega (arith, ints)
monotone (negsuc n) (negsuc m) c d h k le = let q = keeps_order (suc m) (suc n) d c k h (omega arith) in omega (arith, ints)

-- what a whole number of divisors is rounded to
multiple : (n d : ℕ) → 0 < d → nearest (n * d) d ≡ n
multiple n d h = nearest_is (n * d) d n h (omega arith) (omega arith)

mirrored : (a : ℤ) (d : ℕ) → 0 < d → rounded (neg_ℤ a) d ≡ neg_ℤ (rounded a d)
mirrored (pos zero) d h = let q : nearest 0 d ≡ 0 = nearest_is 0 d 0 h (omega arith) (omega arith) in rw q
mirrored (pos (suc n)) d h = refl
mirrored (negsuc n) d h = sym (neg_ℤ-neg_ℤ (pos (nearest (suc n) d)))

exact : (a : ℤ) (d : ℕ) → 0 < d → rounded (a *ℤ pos d) d ≡ a
exact (pos n) d h = ap pos (multiple n d h)
exact (negsuc n) d h = mirrored (pos (suc n * d)) d h ∙ ap (λ (q : ℕ). neg_ℤ (pos q)) (multiple (suc n) d h)

pub rounding_laws : RoundingLaws
rounding_laws = record {
  near = near;
  monotone = monotone;
  exact = exact;
  mirrored = mirrored;
  half_away = λ q d h. ap pos (nearest_is ((2 * q + 1) * d) (2 * d) (q + 1) (omega arith) (omega arith) (omega arith));
}

-- ---- fractions

-- a fraction is the quotient of its numerator
same_quotient : (x : Fraction) → quotient (numerator x) x.den x.some ≃ x
same_quotient x =
    let sum = sum_is_lem (pos x.up) (neg_ℤ (pos x.down)) in
    let sign = neg_is (pos x.down) in
    let parts : up (numerator x) + x.down ≡ x.up + down (numerator x) = omega arith in
    omega (arith, ap (λ (n : ℕ). n * x.den) parts)

pub fraction_rounding : FractionRounding
fraction_rounding = record {
  near = λ x. within-≃ one_half (whole (rounded_fraction x)) (quotient (numerator x) x.den x.some) x (near (numerator x) x.den x.some) (same_quotient x);
  monotone = λ x y le. monotone (numerator x) (numerator y) x.den y.den x.some y.some
      (≃-⊑ (quotient (numerator x) x.den x.some) x (quotient (numerator y) y.den y.some) (same_quotient x)
      (⊑-≃ x y (quotient (numerator y) y.den y.some) le (≃_sym (quotient (numerator y) y.den y.some) y (same_quotient y))));
  exact = λ a. let once : numerator (whole a) ≡ a *ℤ pos 1 = omega (arith, ints) in ap (λ (b : ℤ). rounded b 1) once ∙ exact a 1 (lit< tt);
}

-- ---- rounding by sizes, as the code goes

-- a size is rounded to no more than itself
pub nearest_size : (n d : ℕ) → 0 < d → nearest n d ≤ n
nearest_size n d h =
    let whole_again : nearest n 1 ≡ n = nearest_is n 1 n (lit< tt) (omega arith) (omega arith) in
    omega (arith, keeps_order n n d 1 h (lit< tt) (omega (arith, mul-le-mul_left n h)))

pub rounded_above : (a : ℤ) (d : ℕ) → pos 0 ≤ℤ a → rounded a d ≡ pos (nearest (nat_abs a) d)
rounded_above (pos n) d h = refl
rounded_above (negsuc n) d h = absurd (omega (arith, ints))

pub rounded_below : (a : ℤ) (d : ℕ) → a <ℤ pos 0 → rounded a d ≡ neg_ℤ (pos (nearest (nat_abs a) d))
rounded_below (pos n) d h = absurd (omega (arith, ints))
rounded_below (negsuc n) d h = refl
