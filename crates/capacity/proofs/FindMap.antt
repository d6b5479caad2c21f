-- What `find_map` answers over a chain of iterators that gives a list: the first answer of h that is not none.
use Rattle.std.proofs.Common.{◌≡◌, ℕ, suc, zero, ◌+◌, ◌<◌, true, List, [], ◌∷◌, map, length, get_or, drop, ◌++◌, Some, None, Option, MatchOption, IfSome, IsSomeAnd, sym, refl, ap, ◌∙◌, subst, not-suc-le-zero, arith}
use denote.Param.Members.{Mut, Called}
use Rattle.std.specs.Option.{option_or, option_map}
use Rattle.std.specs.Bool.{IsTrue}
use Rattle.std.specs.Iterator.{Yields}
use Rattle.std.specs.Iterator.Runs.{Run, SomeRun, ItemsMapTo, AllItemsGive, IsFirstToGive, CallKeepsClosure}
use Rattle.std.proofs.iter.runs.Made.{took}
use Rattle.std.proofs.iter.runs.Sources.{lists}
use Rattle.std.proofs.lemmas.Iterator.{YieldsList, items_from_drains}
use Rattle.std.proofs.lemmas.Iterator.Consumers.{YieldsList-so_far}
use Rattle.std.proofs.lemmas.List.{take-append-drop, length-drop, length-map}
use Rattle.std.proofs.lemmas.Option.{none-some, same_Some}

abbrev pub first_some : {B C : Type 0} → (B → Option C) → List B → Option C
first_some h [] = None
first_some h (x ∷ xs) = option_or (h x) (first_some h xs)

module _ {B C : Type 0} (h : B → Option C) where
  all_none : (xs : List B) → ((k : ℕ) (d : B) → k < length xs → h (get_or xs k d) ≡ None) → None ≡ first_some h xs
  all_none [] none = refl
  all_none (x ∷ xs) none = rw (none 0 x (omega arith)) (all_none xs (λ k d l. none (suc k) d (omega arith)))

  first_at : (xs : List B) (i : ℕ) (y : C) → i < length xs → ((d : B) → h (get_or xs i d) ≡ Some y) → ((k : ℕ) (d : B) → k < i → h (get_or xs k d) ≡ None) → Some y ≡ first_some h xs
  first_at [] i y inside at none = absurd (not-suc-le-zero inside)
  first_at (x ∷ xs) zero y inside at none = rw (at x) refl
  first_at (x ∷ xs) (suc i) y inside at none = rw (none 0 x (omega arith)) (first_at xs i y (omega arith) at (λ k d l. none (suc k) d (omega arith)))

module _ {S A B C F : Type 0} {steps : S → Option A → S → Type 0} {v : A → B} {g : Mut F (A × Unit {0}) (Option C)} {s : S} {all : List B} {f : F}
    (h : B → Option C) (road : YieldsList steps v s all) (gives : (x : A) (o : Option C) (q : F) → Called g f (x, tt) o q → (q ≡ f) × (o ≡ h (v x))) where
  items : (p : Run steps) → p.from ≡ s → ItemsMapTo p v all
  items p e =
      let ran = took p in
      let far : Yields steps s p.items ran.0 = subst (λ (from : S). Yields steps from p.items ran.0) e ran.1 in
      let front = YieldsList-so_far road p.items ran.0 far in
      let whole : p.whole ≡ true → map v p.items ≡ all = λ w. items_from_drains p.items (ran.0, far, λ _. ran.2 w) road in
      lists p v all (drop (length p.items) all) (λ w. simp length-drop (omega (arith, ap length (whole w), length-map p.items v)))
      (sym (take-append-drop (length p.items) all) ∙ ap (λ (l : List B). l ++ drop (length p.items) all) (sym front))

  -- what the closure answered at an item is what h gives
  answered : (o : Option C) (item : Option A) (y : B) → IfSome item (λ x. Called g f (x, tt) o f) → option_map v item ≡ Some y → h y ≡ o
  answered o None y call e = absurd (none-some y e)
  answered o (Some x) y call e = ap h (sym (same_Some (v x) y e)) ∙ sym (gives x o f call).1

  there : (item : Option A) (P : A → Type 0) → IsSomeAnd item P → IfSome item P
  there None P q = tt
  there (Some x) P q = q

  pub first_from_find_map : (r : Option C) → SomeRun steps s (λ p. MatchOption r (IsTrue p.whole × AllItemsGive p g f None) (λ y. (i : ℕ) × (i < p.len) × (p.len ≡ i + 1) × IsFirstToGive p g f (Some y) None i)) → r ≡ first_some h all
  first_from_find_map r (p, e, d) = by r d
    where
      keeps : CallKeepsClosure g f
      keeps (x, unit) o q call = (gives x o q call).0

      by : (r : Option C) → MatchOption r (IsTrue p.whole × AllItemsGive p g f None) (λ y. (i : ℕ) × (i < p.len) × (p.len ≡ i + 1) × IsFirstToGive p g f (Some y) None i) → r ≡ first_some h all
      by None d =
          let list = items p e in
          let long = list.1 d.0 in
          all_none h all (λ k b l. answered None (p.at k) (get_or all k b) (d.1 keeps k) (list.2 k b (omega arith)))
      by (Some y) (i, inside, last, first) =
          let list = items p e in
          let at = first keeps in
          first_at h all i y (omega (arith, list.0)) (λ b. answered (Some y) (p.at i) (get_or all i b) (there (p.at i) _ at.0) (list.2 i b inside))
          (λ k b l. answered None (p.at k) (get_or all k b) (there (p.at k) _ (at.1 k l)) (list.2 k b (omega arith)))
