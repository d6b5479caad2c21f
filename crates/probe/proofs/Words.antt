-- The word of counting elements: its bits and its ones.
use Rattle.std.proofs.Common.{◌≡◌, ℕ, zero, suc, ◌+◌, ◌*◌, ◌/◌, ◌%◌, ◌^◌, ◌<◌, List, [], ◌∷◌, length, get_or, Some, None, Option, sym, refl, ap, ◌∙◌, not-suc-le-zero, mul_comm, pow-suc, div-one, add-one, arith}
use native.Mathlib.Nat.{div-div-eq-div-mul}
use lib.Bits.{bit_or, or_shifted_r}
use lib.Count.{ones, ones_step}
use Rattle.std.proofs.lemmas.Nat.{one_shl}
use Rattle.std.specs.List.{cons_option}
use Rattle.working.specs.declared.element.CountingElement.{CountingElement}
use Rattle.probe.specs.declared.element.ProbeElement.{ProbeElement}
use Rattle.probe.specs.Elements.{counted, new_element}
use Rattle.probe.specs.Counted.{counting, counting_word, bit_of}
use Rattle.probe.specs.CountingLaws.{CountingLaws}

-- ---- setting a bit above the others

pub set_bit : (w i : ℕ) → w < 2 ^ i → i < 16 → bit_or w ((1 * 2 ^ i) % 2 ^ 16) ≡ 2 ^ i + w
set_bit w i h l = grind (arith, one_shl i 16 l, or_shifted_r 1 i w h)

twice : (i : ℕ) → 2 ^ (i + 1) ≡ 2 ^ i * 2
twice i = ap (λ k. 2 ^ k) (add-one i) ∙ pow-suc 2 i

-- the bit at place i, and what is left above it
pub bit_more : (w i b r t : ℕ) → w + 2 ^ i * (b + 2 * r) ≡ t → (2 ^ i * b + w) + 2 ^ (i + 1) * r ≡ t
bit_more w i b r t e = rw twice (omega (arith, e))

pub word_below : (w i : ℕ) → w < 2 ^ i → 2 ^ i + w < 2 ^ (i + 1)
word_below w i h = rw twice (omega arith)

pub word_still_below : (w i : ℕ) → w < 2 ^ i → w < 2 ^ (i + 1)
word_still_below w i h = rw twice (omega arith)

-- ---- the laws

lowest_bit : (c : Option CountingElement) (n : ℕ) → ((bit_of c + 2 * n) % 2 ≡ bit_of c) × ((bit_of c + 2 * n) / 2 ≡ n)
lowest_bit None n = omega arith
lowest_bit (Some e) n = omega arith

counted_length : (c : Option CountingElement) (es : List CountingElement) → length (cons_option c es) ≡ bit_of c + length es
counted_length None es = omega arith
counted_length (Some e) es = omega arith

ones_count : (water level : ℕ) (es : List ProbeElement) → ones (counting_word water level es) ≡ length (counting water level es)
unfolding ones
ones_count water level [] = refl
ones_count water level (e ∷ es) =
    let b = lowest_bit (counted water level e) (counting_word water level es) in
    ones_step (counting_word water level (e ∷ es)) ∙ simp (b.0, b.1, ones_count water level es) (sym (counted_length (counted water level e) (counting water level es)))

-- the bit at place k + 1 is the bit at place k of the rest
shifted : (c : Option CountingElement) (n k : ℕ) → (bit_of c + 2 * n) / 2 ^ suc k ≡ n / 2 ^ k
shifted c n k =
    let x = bit_of c + 2 * n in
    let two : 2 ^ suc k ≡ 2 * 2 ^ k = pow-suc 2 k ∙ mul_comm (2 ^ k) 2 in
    ap (λ (d : ℕ). x / d) two ∙ sym (div-div-eq-div-mul x 2 (2 ^ k)) ∙ ap (λ (m : ℕ). m / 2 ^ k) (lowest_bit c n).1

bits : (water level : ℕ) (es : List ProbeElement) (k : ℕ) → k < length es → (counting_word water level es / 2 ^ k) % 2 ≡ bit_of (counted water level (get_or es k (new_element 0)))
bits water level [] k h = absurd (not-suc-le-zero h)
bits water level (e ∷ es) zero h =
    ap (λ (n : ℕ). n % 2) (div-one (counting_word water level (e ∷ es))) ∙ (lowest_bit (counted water level e) (counting_word water level es)).0
bits water level (e ∷ es) (suc k) h =
    ap (λ (n : ℕ). n % 2) (shifted (counted water level e) (counting_word water level es) k) ∙ bits water level es k (omega arith)

pub counting_laws : CountingLaws
counting_laws = record { bits = bits; ones_count = ones_count }
