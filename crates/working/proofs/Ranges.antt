-- Ranges of whole numbers, and what each operation and the rounding make of them.
use Rattle.std.proofs.Common.{◌≡◌, ℕ, zero, suc, ◌+◌, ◌*◌, ◌^◌, ◌<◌, ◌≤◌, ℤ, pos, negsuc, ◌+ℤ◌, ◌*ℤ◌, neg_ℤ, nat_abs, ◌≤ℤ◌, sym, refl, ap, ◌∙◌, subst, mul-le-mul_right, mul-le-mul, mul-le-mul_left, arith, w64, SFits}
use lib.IntN.{*ℤ_comm}
use borrow.Author.Differences.{ints, up, down, le_out, at_most_in, product_is}
use Rattle.measure.specs.Rounding.{rounded}
use Rattle.measure.proofs.Rounds.{rounding_laws}
use Rattle.working.specs.Limits.{Between}

-- ---- products keep the order

pub multiple_keeps : (k : ℕ) (a b : ℤ) → a ≤ℤ b → (pos k *ℤ a) ≤ℤ (pos k *ℤ b)
multiple_keeps k a b le =
    let parts : k * (up a + down b) ≤ k * (up b + down a) = mul-le-mul_left k (le_out a b le) in
    let p = product_is (pos k) a in
    let q = product_is (pos k) b in
    at_most_in (pos k *ℤ a) (pos k *ℤ b) (omega arith)

negated_product : (n d : ℕ) → neg_ℤ (pos n) *ℤ pos d ≡ neg_ℤ (pos (n * d))
negated_product zero d = omega (arith, ints)
negated_product (suc n) d = refl

pub regrouped : (k t : ℕ) (c : ℤ) → (pos k *ℤ c) *ℤ pos t ≡ pos k *ℤ (pos t *ℤ c)
regrouped k t (pos n) = ap pos (omega arith)
regrouped k t (negsuc n) =
    let size : k * suc n * t ≡ t * suc n * k = omega arith in
    negated_product (k * suc n) t ∙ ap (λ (m : ℕ). neg_ℤ (pos m)) size ∙ sym (negated_product (t * suc n) k) ∙ *ℤ_comm (neg_ℤ (pos (t * suc n))) (pos k)

-- ---- the rounding keeps what holds of whole multiples of the divisor

keeps : (a b : ℤ) (d : ℕ) → 0 < d → a ≤ℤ b → rounded a d ≤ℤ rounded b d
keeps a b d h le =
    let parts : (up a + down b) * d ≤ (up b + down a) * d = mul-le-mul_right d (le_out a b le) in
    rounding_laws.monotone a b d d h h (omega arith)

pub rounded_least : (lo a : ℤ) (d : ℕ) → 0 < d → (lo *ℤ pos d) ≤ℤ a → lo ≤ℤ rounded a d
rounded_least lo a d h le = subst (λ (x : ℤ). x ≤ℤ rounded a d) (rounding_laws.exact lo d h) (keeps (lo *ℤ pos d) a d h le)

pub rounded_most : (a hi : ℤ) (d : ℕ) → 0 < d → a ≤ℤ (hi *ℤ pos d) → rounded a d ≤ℤ hi
rounded_most a hi d h le = subst (λ (x : ℤ). rounded a d ≤ℤ x) (rounding_laws.exact hi d h) (keeps a (hi *ℤ pos d) d h le)

-- the same of a natural number
pub quotient_most : (n d hi r : ℕ) → 0 < d → n ≤ hi * d → pos r ≡ rounded (pos n) d → r ≤ hi
quotient_most n d hi r h le e = let most = rounded_most (pos n) (pos hi) d h (omega (arith, ints)) in omega (arith, ints)

-- ---- ranges

pub size_most : (k lo hi : ℕ) (z : ℤ) → Between lo hi z → lo ≤ k → hi ≤ k → nat_abs z ≤ k
size_most k lo hi z b p q = omega (arith, ints)

pub fits : {lo hi : ℕ} {z : ℤ} → Between lo hi z → lo + hi < 2 ^ 63 → SFits w64 z
fits b h = omega (arith, ints)

pub wider : (lo hi low high : ℕ) (z : ℤ) → lo ≤ low → hi ≤ high → Between lo hi z → Between low high z
wider lo hi low high z p q b = record { least = omega (arith, ints); most = omega (arith, ints) }

pub sum_between : (lo hi low high : ℕ) (a b : ℤ) → Between lo hi a → Between low high b → Between (lo + low) (hi + high) (a +ℤ b)
sum_between lo hi low high a b p q =
    record { least = omega (arith, ints); most = omega (arith, ints) }

pub product_between : (n m lo hi : ℕ) (z : ℤ) → n ≤ m → Between lo hi z → Between (m * lo) (m * hi) (pos n *ℤ z)
product_between n m lo hi (pos k) h b =
    let top : k ≤ hi = omega (arith, ints) in
    let most = mul-le-mul h top in
    record { least = omega (arith, ints); most = omega (arith, ints) }
product_between n m lo hi (negsuc k) h b =
    let bottom : suc k ≤ lo = omega (arith, ints) in
    let most = mul-le-mul h bottom in
    record { least = omega (arith, ints); most = omega (arith, ints) }

pub square_between : (k : ℕ) (z : ℤ) → nat_abs z ≤ k → Between 0 (k * k) (z *ℤ z)
square_between k (pos n) h = let most = mul-le-mul h h in record { least = omega (arith, ints); most = omega (arith, ints) }
square_between k (negsuc n) h = let most = mul-le-mul h h in record { least = omega (arith, ints); most = omega (arith, ints) }

pub rounded_between : (lo hi d : ℕ) (a : ℤ) → 0 < d → Between (lo * d) (hi * d) a → Between lo hi (rounded a d)
rounded_between lo hi d a h b = record {
  least = rounded_least (neg_ℤ (pos lo)) a d h (subst (λ (x : ℤ). x ≤ℤ a) (sym (negated_product lo d)) b.least);
  most = rounded_most a (pos hi) d h b.most;
}
