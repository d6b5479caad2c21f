-- The laws of exact fractions: an order, sums and products that keep it, and distances that add up.
use Rattle.std.specs.Prelude.{◌≡◌, ℕ, zero, suc, ◌+◌, ◌-◌, ◌*◌, ◌<◌, ◌≤◌, ℤ, ◌+ℤ◌, ◌*ℤ◌, neg_ℤ}
use Rattle.std.proofs.Common.{subst₂, ap, mul-le-mul_right, le_of_mul-le-mul_right, add-sub_of_le, le_of_eq, not-suc-le-zero, zero-lt-suc, arith}
use Rattle.std.proofs.Math.Bridge.{le_prop}
use borrow.Author.Differences.{sum_is_lem, product_is, neg_is}
use Rattle.measure.specs.Fractions.{Fraction, whole, natural, over, per, ◌⊕◌, ◌⊖◌, ◌⊗◌, negated, ◌⊑◌, ◌≃◌, Within}

-- ---- order

pub ⊑_refl : (x : Fraction) → x ⊑ x
⊑_refl x = omega arith

pub ⊑_trans : (x y z : Fraction) → x ⊑ y → y ⊑ z → x ⊑ z
⊑_trans x y z p q =
    le_of_mul-le-mul_right (omega (arith, mul-le-mul_right z.den p, mul-le-mul_right x.den q)) y.some

pub ⊑_antisym : (x y : Fraction) → x ⊑ y → y ⊑ x → x ≃ y
⊑_antisym x y p q = omega arith

-- ---- quotients

pub per_is : (n d : ℕ) (h : 0 < d) → per n d ≡ over n d h
per_is n zero h = absurd (not-suc-le-zero h)
per_is n (suc d) h = ap (λ (p : 0 < suc d). over n (suc d) p) (le_prop (zero-lt-suc d) h)

-- ---- the same number

pub ≃_refl : (x : Fraction) → x ≃ x
≃_refl x = omega arith

pub ≃_sym : (x y : Fraction) → x ≃ y → y ≃ x
≃_sym x y p = omega arith

pub ≃→⊑ : (x y : Fraction) → x ≃ y → x ⊑ y
≃→⊑ x y p = le_of_eq p

pub ≃_trans : (x y z : Fraction) → x ≃ y → y ≃ z → x ≃ z
≃_trans x y z p q =
    ⊑_antisym x z (⊑_trans x y z (≃→⊑ x y p) (≃→⊑ y z q)) (⊑_trans z y x (≃→⊑ z y (≃_sym y z q)) (≃→⊑ y x (≃_sym x y p)))

pub ⊑-≃ : (x y z : Fraction) → x ⊑ y → y ≃ z → x ⊑ z
⊑-≃ x y z p q = ⊑_trans x y z p (≃→⊑ y z q)

pub ≃-⊑ : (x y z : Fraction) → x ≃ y → y ⊑ z → x ⊑ z
≃-⊑ x y z p q = ⊑_trans x y z (≃→⊑ x y p) q

-- y is x with both sides of the line multiplied by k, and m added to both naturals above it
widened_naturals : (a b c k m a' b' c' : ℕ) → a' ≡ a * k + m → b' ≡ b * k + m → c' ≡ c * k → a * c' + b' * c ≡ a' * c + b * c'
widened_naturals a b c k m a' b' c' p q r = rw (p, q, r) (omega arith)

pub widened : (x y : Fraction) (k m : ℕ) → y.up ≡ x.up * k + m → y.down ≡ x.down * k + m → y.den ≡ x.den * k → x ≃ y
widened x y k m p q r = widened_naturals x.up x.down x.den k m y.up y.down y.den p q r

-- ---- sums

sum_naturals : {a b c d : ℕ} → a ≤ b → c ≤ d → a + c ≤ b + d
sum_naturals p q = omega arith

between : {a b c d : ℕ} → a ≡ c → c ≤ d → b ≡ d → a ≤ b
between p q r = omega arith

sum_left : (a c e f g i k l : ℕ) → (a * i + g * c) * (f * l) + (e * l + k * f) * (c * i) ≡ (a * f + e * c) * (i * l) + (g * l + k * i) * (c * f)
sum_left a c e f g i k l = omega arith

sum_right : (a c e f g i k l : ℕ) → (a * i + g * c) * (f * l) + (e * l + k * f) * (c * i) ≡ (a * f + e * c) * (l * i) + (g * l + k * i) * (f * c)
sum_right a c e f g i k l = omega arith

pub ⊕_mono : (x y z w : Fraction) → x ⊑ y → z ⊑ w → x ⊕ z ⊑ y ⊕ w
⊕_mono x y z w p q =
    between
    (sum_left x.up x.den y.down y.den z.up z.den w.down w.den)
    (sum_naturals (mul-le-mul_right (z.den * w.den) p) (mul-le-mul_right (x.den * y.den) q))
    (sum_right y.up y.den x.down x.den w.up w.den z.down z.den)

pub ⊕_comm : (x y : Fraction) → x ⊕ y ≃ y ⊕ x
⊕_comm x y = omega arith

pub ⊕_assoc : (x y z : Fraction) → (x ⊕ y) ⊕ z ≃ x ⊕ (y ⊕ z)
⊕_assoc x y z = omega arith

pub ⊕_cong : (x x' y y' : Fraction) → x ≃ x' → y ≃ y' → x ⊕ y ≃ x' ⊕ y'
⊕_cong x x' y y' p q =
    ⊑_antisym (x ⊕ y) (x' ⊕ y')
    (⊕_mono x x' y y' (≃→⊑ x x' p) (≃→⊑ y y' q))
    (⊕_mono x' x y' y (≃→⊑ x' x (≃_sym x x' p)) (≃→⊑ y' y (≃_sym y y' q)))

-- ---- products

pub ⊗_comm : (x y : Fraction) → x ⊗ y ≃ y ⊗ x
⊗_comm x y = omega arith

pub ⊗_assoc : (x y z : Fraction) → (x ⊗ y) ⊗ z ≃ x ⊗ (y ⊗ z)
⊗_assoc x y z = omega arith

pub ⊗-⊕ : (x y z : Fraction) → x ⊗ (y ⊕ z) ≃ x ⊗ y ⊕ x ⊗ z
⊗-⊕ x y z = widened (x ⊗ (y ⊕ z)) (x ⊗ y ⊕ x ⊗ z) x.den 0 (omega arith) (omega arith) (omega arith)

pub ⊗_cong_left : (x x' y : Fraction) → x ≃ x' → x ⊗ y ≃ x' ⊗ y
⊗_cong_left x x' y p =
    omega (arith, ap (λ (n : ℕ). n * (y.den * y.up)) p, ap (λ (n : ℕ). n * (y.den * y.down)) p)

pub ⊗_cong : (x x' y y' : Fraction) → x ≃ x' → y ≃ y' → x ⊗ y ≃ x' ⊗ y'
⊗_cong x x' y y' p q =
    ≃_trans (x ⊗ y) (x' ⊗ y) (x' ⊗ y') (⊗_cong_left x x' y p)
    (≃_trans (x' ⊗ y) (y ⊗ x') (x' ⊗ y') (⊗_comm x' y)
    (≃_trans (y ⊗ x') (y' ⊗ x') (x' ⊗ y') (⊗_cong_left y y' x' q) (⊗_comm y' x')))

-- a factor that is not negative keeps the order
pub ⊗_mono : (x y z : Fraction) → natural 0 ⊑ z → x ⊑ y → x ⊗ z ⊑ y ⊗ z
⊗_mono x y z p q =
    let spread = crossed (x.up * y.den + y.down * x.den) (y.up * x.den + x.down * y.den) z.down z.up q (omega arith) in
    let scaled = mul-le-mul_right z.den spread in
    omega arith
  where
    crossed_by : (a s c t : ℕ) → a * (c + t) + (a + s) * c ≤ a * c + (a + s) * (c + t)
    crossed_by a s c t = omega arith

    crossed : (a b c d : ℕ) → a ≤ b → c ≤ d → a * d + b * c ≤ a * c + b * d
    crossed a b c d h k =
        subst₂ (λ (x y : ℕ). a * y + x * c ≤ a * c + x * y) (add-sub_of_le h) (add-sub_of_le k) (crossed_by a (b - a) c (d - c))

-- ---- distances

pub within_same : (x y : Fraction) → x ≃ y → Within (natural 0) x y
within_same x y p = record {
  below = ⊑-≃ x y (y ⊕ natural 0) (≃→⊑ x y p) (omega arith);
  above = ⊑-≃ y x (x ⊕ natural 0) (≃→⊑ y x (≃_sym x y p)) (omega arith);
}

pub within_sym : (e x y : Fraction) → Within e x y → Within e y x
within_sym e x y h = record { below = h.above; above = h.below }

pub within_negated : (e x y : Fraction) → Within e x y → Within e (negated x) (negated y)
within_negated e x y h = record { below = omega (arith, h.above); above = omega (arith, h.below) }

one_way : (e f x y z : Fraction) → x ⊑ y ⊕ e → y ⊑ z ⊕ f → x ⊑ z ⊕ (e ⊕ f)
one_way e f x y z p q =
    ⊑_trans x (y ⊕ e) (z ⊕ (e ⊕ f)) p
    (⊑-≃ (y ⊕ e) ((z ⊕ f) ⊕ e) (z ⊕ (e ⊕ f)) (⊕_mono y (z ⊕ f) e e q (⊑_refl e)) (omega arith))

-- distances add up
pub within_trans : (e f x y z : Fraction) → Within e x y → Within f y z → Within (e ⊕ f) x z
within_trans e f x y z h k = record {
  below = one_way e f x y z h.below k.below;
  above = ⊑-≃ z (x ⊕ (f ⊕ e)) (x ⊕ (e ⊕ f)) (one_way f e z y x k.above h.above) (omega arith);
}

pub within_wider : (e f x y : Fraction) → e ⊑ f → Within e x y → Within f x y
within_wider e f x y l h = record {
  below = ⊑_trans x (y ⊕ e) (y ⊕ f) h.below (⊕_mono y y e f (⊑_refl y) l);
  above = ⊑_trans y (x ⊕ e) (x ⊕ f) h.above (⊕_mono x x e f (⊑_refl x) l);
}

-- another form of either number
pub within-≃ : (e x y z : Fraction) → Within e x y → y ≃ z → Within e x z
within-≃ e x y z h p = record {
  below = ⊑_trans x (y ⊕ e) (z ⊕ e) h.below (⊕_mono y z e e (≃→⊑ y z p) (⊑_refl e));
  above = ≃-⊑ z y (x ⊕ e) (≃_sym y z p) h.above;
}

pub ≃_within : (e x y z : Fraction) → x ≃ y → Within e y z → Within e x z
≃_within e x y z p h = within_sym e z x (within-≃ e z y x (within_sym e y z h) (≃_sym x y p))

-- ---- whole numbers

pub whole_sum : (a b : ℤ) → whole (a +ℤ b) ≃ whole a ⊕ whole b
whole_sum a b = omega (arith, sum_is_lem a b)

pub whole_negated : (a : ℤ) → whole (neg_ℤ a) ≃ negated (whole a)
whole_negated a = omega (arith, neg_is a)

pub whole_product : (a b : ℤ) → whole (a *ℤ b) ≃ whole a ⊗ whole b
whole_product a b = omega (arith, product_is a b)

-- ---- in one place, for a contract

pub record FractionLaws : Type 0 where
  pub reflexive : (x : Fraction) → x ⊑ x
  pub transitive : (x y z : Fraction) → x ⊑ y → y ⊑ z → x ⊑ z
  pub antisymmetric : (x y : Fraction) → x ⊑ y → y ⊑ x → x ≃ y
  pub sums_keep_order : (x y z w : Fraction) → x ⊑ y → z ⊑ w → x ⊕ z ⊑ y ⊕ w
  pub products_keep_order : (x y z : Fraction) → natural 0 ⊑ z → x ⊑ y → x ⊗ z ⊑ y ⊗ z
  pub sums_commute : (x y : Fraction) → x ⊕ y ≃ y ⊕ x
  pub sums_associate : (x y z : Fraction) → (x ⊕ y) ⊕ z ≃ x ⊕ (y ⊕ z)
  pub products_commute : (x y : Fraction) → x ⊗ y ≃ y ⊗ x
  pub products_associate : (x y z : Fraction) → (x ⊗ y) ⊗ z ≃ x ⊗ (y ⊗ z)
  pub products_distribute : (x y z : Fraction) → x ⊗ (y ⊕ z) ≃ x ⊗ y ⊕ x ⊗ z
  pub nothing_added : (x : Fraction) → x ⊕ natural 0 ≃ x
  pub once : (x : Fraction) → x ⊗ natural 1 ≃ x
  pub taken_away : (x : Fraction) → x ⊖ x ≃ natural 0
  pub distances_add_up : (e f x y z : Fraction) → Within e x y → Within f y z → Within (e ⊕ f) x z
  pub whole_sums : (a b : ℤ) → whole (a +ℤ b) ≃ whole a ⊕ whole b
  pub whole_products : (a b : ℤ) → whole (a *ℤ b) ≃ whole a ⊗ whole b

pub fraction_laws : FractionLaws
fraction_laws = record {
  reflexive = ⊑_refl;
  transitive = ⊑_trans;
  antisymmetric = ⊑_antisym;
  sums_keep_order = ⊕_mono;
  products_keep_order = ⊗_mono;
  sums_commute = ⊕_comm;
  sums_associate = ⊕_assoc;
  products_commute = ⊗_comm;
  products_associate = ⊗_assoc;
  products_distribute = ⊗-⊕;
  nothing_added = λ x. omega arith;
  once = λ x. omega arith;
  taken_away = λ x. omega arith;
  distances_add_up = within_trans;
  whole_sums = whole_sum;
  whole_products = whole_product;
}
