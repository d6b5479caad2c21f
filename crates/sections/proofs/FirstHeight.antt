-- The first answer in a list, in the library's words.
use Rattle.std.proofs.Common.{◌≡◌, List, [], ◌∷◌, Some, None, Option, slice_get, refl}
use Rattle.std.specs.Option.{option_or}
use Rattle.std.specs.List.{filter_map, cons_option}
use Rattle.capacity.proofs.FindMap.{first_some}

module _ {B C : Type 0} (h : B → Option C) where
  first_before : (o : Option C) (xs : List B) → first_some h xs ≡ slice_get (filter_map h xs) 0 → option_or o (first_some h xs) ≡ slice_get (cons_option o (filter_map h xs)) 0
  first_before (Some y) xs e = refl
  first_before None xs e = e

  pub first_in : (xs : List B) → first_some h xs ≡ slice_get (filter_map h xs) 0
  first_in [] = refl
  first_in (x ∷ xs) = first_before (h x) xs (first_in xs)
