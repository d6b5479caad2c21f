-- How the elements stay right where one is fitted or hears a temperature.
use Rattle.std.proofs.Common.{◌≡◌, ℕ, zero, suc, ◌+◌, ◌-◌, ◌<◌, ◌≤◌, true, List, [], ◌∷◌, ◌++◌, length, get_or, take, set, ℤ, sym, refl, ap, ◌∙◌, arith, length-take-le}
use Rattle.std.proofs.lemmas.Int.{ints}
use Rattle.std.proofs.lemmas.Bool.Decides.{nat_tests}
use Rattle.measure.specs.Limits.{highest_level}
use Rattle.probe.specs.declared.element.ProbeElement.{ProbeElement}
use Rattle.probe.specs.declared.probe.Probe.{Probe}
use Rattle.probe.specs.Elements.{state_of, state_right, new_element, lowest_free, right_from, elements_right}

-- ---- one element and those above it

pub record Right (low : ℕ) (e : ProbeElement) (es : List ProbeElement) : Type 0 where
  pub above : low ≤ e.height
  pub within : e.height ≤ highest_level
  pub state : state_right e.state ≡ true
  pub rest : right_from (e.height + 1) es ≡ true

pub right_parts : (low : ℕ) (e : ProbeElement) (es : List ProbeElement) → right_from low (e ∷ es) ≡ true → Right low e es
right_parts low e es h = record {
  above = grind (arith, nat_tests, h);
  within = grind (arith, nat_tests, h);
  state = grind (arith, nat_tests, h);
  rest = grind (arith, nat_tests, h);
}

pub right_made : (low : ℕ) (e : ProbeElement) (es : List ProbeElement) → low ≤ e.height → e.height ≤ highest_level → state_right e.state ≡ true → right_from (e.height + 1) es ≡ true → right_from low (e ∷ es) ≡ true
right_made low e es p q r s = grind (arith, nat_tests)

-- ---- one more above them

above_first : (low : ℕ) (e : ProbeElement) (es : List ProbeElement) → right_from low (e ∷ es) ≡ true → e.height + 1 ≤ lowest_free (e ∷ es)
above_first low e [] h = omega arith
above_first low e (next ∷ es) h =
    let rest = (right_parts low e (next ∷ es) h).rest in
    omega (arith, (right_parts (e.height + 1) next es rest).above, above_first (e.height + 1) next es rest)

pub free_within : (low : ℕ) (es : List ProbeElement) → right_from low es ≡ true → lowest_free es ≤ highest_level + 1
free_within low [] h = omega arith
free_within low (e ∷ []) h = grind (arith, nat_tests, h)
free_within low (e ∷ (next ∷ es)) h = free_within (e.height + 1) (next ∷ es) (right_parts low e (next ∷ es) h).rest

pub right_push : (low height : ℕ) (es : List ProbeElement) → right_from low es ≡ true → low ≤ height → lowest_free es ≤ height → height ≤ highest_level → right_from low (es ++ (new_element height ∷ [])) ≡ true
right_push low height [] h low_enough free most = grind (arith, nat_tests)
right_push low height (e ∷ []) h low_enough free most = grind (arith, nat_tests)
right_push low height (e ∷ (next ∷ es)) h low_enough free most =
    let r = right_parts low e (next ∷ es) h in
    let n = right_parts (e.height + 1) next es r.rest in
    let enough : e.height + 1 ≤ height = omega (arith, n.above, above_first (e.height + 1) next es r.rest) in
    right_made low e ((next ∷ es) ++ (new_element height ∷ [])) r.above r.within r.state (right_push (e.height + 1) height (next ∷ es) r.rest enough free most)

-- ---- one that hears

-- a temperature within the limits makes a good state, and the others are right as they are
pub state_of_right : (t : ℤ) → state_right (state_of t) ≡ true
state_of_right t = grind (arith, ints)

pub right_set : (low : ℕ) (es : List ProbeElement) (k : ℕ) (e d : ProbeElement) → right_from low es ≡ true → e.height ≡ (get_or es k d).height → state_right e.state ≡ true → right_from low (set es k e) ≡ true
right_set low [] k e d h same right = refl
right_set low (x ∷ xs) zero e d h same right = grind (arith, nat_tests)
right_set low (x ∷ xs) (suc k) e d h same right = grind (arith, nat_tests, right_set (x.height + 1) xs k e d)

-- ---- the entries in use

above_last : (es : List ProbeElement) (k : ℕ) (d : ProbeElement) → length es ≡ k + 1 → lowest_free es ≡ (get_or es k d).height + 1
above_last [] k d h = absurd (omega arith)
above_last (e ∷ []) zero d h = refl
above_last (e ∷ []) (suc k) d h = absurd (omega arith)
above_last (e ∷ (next ∷ es)) zero d h = absurd (omega arith)
above_last (e ∷ (next ∷ es)) (suc k) d h = above_last (next ∷ es) k d (omega arith)

-- e is the last of them
pub free_above : (es : List ProbeElement) (e : ProbeElement) → 0 < length es → e ≡ get_or es (length es - 1) e → lowest_free es ≡ e.height + 1
free_above es e some is = above_last es (length es - 1) e (omega arith) ∙ ap (λ (x : ProbeElement). x.height + 1) (sym is)

pub free_is : (es : List ProbeElement) (n : ℕ) → (0 < length es → n ≡ (get_or es (length es - 1) (new_element 0)).height + 1) → (length es ≤ 0 → n ≡ 0) → n ≡ lowest_free es
free_is [] n some none = none (omega arith)
free_is (e ∷ es) n some none = some (omega arith) ∙ sym (above_last (e ∷ es) (length (e ∷ es) - 1) (new_element 0) (omega arith))

pub record Entered (entries : List ProbeElement) (fitted : ℕ) : Type 0 where
  pub all : length entries ≡ 16
  pub few : fitted ≤ 16
  pub standing : right_from 0 (take fitted entries) ≡ true
  pub count : length (take fitted entries) ≡ fitted

pub entered : (p : Probe) → Entered p.entries.list p.fitted
entered p =
    let entries = p.entries.list in
    let right = p.right in
    let all : length entries ≡ 16 = grind (arith, nat_tests) in
    let few : p.fitted ≤ 16 = grind (arith, nat_tests) in
    record { all = all; few = few; standing = grind (arith, nat_tests); count = length-take-le p.fitted entries (omega arith) }

pub entries_right : (entries : List ProbeElement) (fitted : ℕ) → length entries ≡ 16 → fitted ≤ 16 → right_from 0 (take fitted entries) ≡ true → elements_right entries fitted ≡ true
entries_right entries fitted all few standing = grind (arith, nat_tests)
