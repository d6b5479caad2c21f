-- What the average keeps, in the subject's words.
use Rattle.std.specs.Prelude.{◌≡◌, ℕ, ◌-◌, ◌*◌, true, List, [], ◌∷◌, ℤ, pos, ◌*ℤ◌, ◌≤ℤ◌}
use Rattle.std.specs.Int.{int_min, int_max}
use Rattle.working.specs.declared.element.CountingElement.{CountingElement}
use Rattle.working.specs.Averages.{weights, total, average, liquid_right}

-- the temperatures of the coldest and of the warmest of some elements
abbrev pub coldest : List CountingElement → ℤ
coldest [] = pos 0
coldest (e ∷ []) = e.hundredths
coldest (e ∷ (next ∷ es)) = int_min e.hundredths (coldest (next ∷ es))

abbrev pub warmest : List CountingElement → ℤ
warmest [] = pos 0
warmest (e ∷ []) = e.hundredths
warmest (e ∷ (next ∷ es)) = int_max e.hundredths (warmest (next ∷ es))

pub record AverageLaws : Type 0 where
  -- the weights add up to twice the height of liquid
  pub weights_add_up : (es : List CountingElement) (water level : ℕ) → liquid_right es water level ≡ true → total (weights es water level) ≡ 2 * (level - water)
  -- the average lies between the coldest and the warmest element that counts
  pub not_colder : (es : List CountingElement) (water level : ℕ) → liquid_right es water level ≡ true → (pos 100000 *ℤ coldest es) ≤ℤ average es water level
  pub not_warmer : (es : List CountingElement) (water level : ℕ) → liquid_right es water level ≡ true → average es water level ≤ℤ (pos 100000 *ℤ warmest es)
