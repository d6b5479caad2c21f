-- The layers of liquid that the elements stand for, one on the other from the water to the level.
use Rattle.std.proofs.Common.{◌≡◌, ℕ, ◌+◌, ◌-◌, ◌*◌, ◌<◌, ◌≤◌, true, List, [], ◌∷◌, length, get_or, drop, ℤ, pos, ◌+ℤ◌, ◌*ℤ◌, sym, ap, ◌∙◌, subst, ⊎_elim, arith}
use borrow.Author.Differences.{ints}
use Rattle.std.proofs.Math.Nat.{eq-or-lt_of_le}
use Rattle.std.proofs.lemmas.List.{drop_more, drop_all}
use Rattle.std.proofs.lemmas.Bool.Decides.{nat_tests}
use Rattle.measure.specs.Limits.{highest_level}
use Rattle.working.specs.declared.element.CountingElement.{CountingElement}
use Rattle.working.specs.Limits.{good_temperature, Between}
use Rattle.working.specs.Averages.{weights_from, weighted, rising_from, some_element, liquid_right}
use Rattle.working.proofs.Ranges.{wider, sum_between, product_between}

-- what stands where the elements have ended
abbrev pub nothing : CountingElement
nothing = record { height = 0; hundredths = pos 0 }

-- a good temperature, in hundredths of a °C
abbrev pub Good : ℤ → Type 0
Good t = Between 4000 15000 t

good : (t : ℤ) → good_temperature t ≡ true → Good t
good t h = record { least = grind (arith, ints, h); most = grind (arith, ints, h) }

-- no layer ends below where it begins, and the last ends at the level: heights are doubled
abbrev pub Laid : ℕ → List CountingElement → ℕ → Type 0
Laid from [] level = Unit {0}
Laid from (e ∷ []) level = (from ≤ 2 * level) × Good e.hundredths
Laid from (e ∷ (next ∷ es)) level =
    (from ≤ e.height + next.height) × (e.height + next.height ≤ 2 * level) × Good e.hundredths × Laid (e.height + next.height) (next ∷ es) level

record First (low : ℕ) (e : CountingElement) (es : List CountingElement) (level : ℕ) : Type 0 where
  above : low ≤ e.height
  below : e.height ≤ level
  good : Good e.hundredths
  rest : rising_from (e.height + 1) es level ≡ true

first : (low : ℕ) (e : CountingElement) (es : List CountingElement) (level : ℕ) → rising_from low (e ∷ es) level ≡ true → First low e es level
first low e es level h =
    let warm : good_temperature e.hundredths ≡ true = grind (arith, nat_tests, h) in
    record { above = grind (arith, nat_tests, h); below = grind (arith, nat_tests, h); good = good e.hundredths warm; rest = grind (arith, nat_tests, h) }

laid_from : (low from : ℕ) (e : CountingElement) (es : List CountingElement) (level : ℕ) → rising_from low (e ∷ es) level ≡ true → from ≤ 2 * e.height → Laid from (e ∷ es) level
laid_from low from e [] level h le = let f = first low e [] level h in (omega arith, f.good)
laid_from low from e (next ∷ es) level h le =
    let f = first low e (next ∷ es) level h in
    let g = first (e.height + 1) next es level f.rest in
    (omega arith, omega arith, f.good, laid_from (e.height + 1) (e.height + next.height) next es level f.rest (omega arith))

-- ---- the liquid

pub record LiquidParts (es : List CountingElement) (water level : ℕ) : Type 0 where
  pub some : some_element es ≡ true
  pub water_below : water < level
  pub level_most : level ≤ highest_level
  pub laid : Laid (2 * water) es level

laid_on_water : (es : List CountingElement) (water level : ℕ) → rising_from water es level ≡ true → Laid (2 * water) es level
laid_on_water [] water level h = tt
laid_on_water (e ∷ es) water level h = let f = first water e es level h in laid_from water (2 * water) e es level h (omega arith)

pub liquid_parts : (es : List CountingElement) (water level : ℕ) → liquid_right es water level ≡ true → LiquidParts es water level
liquid_parts es water level h =
    let rising : rising_from water es level ≡ true = grind (arith, nat_tests, h) in
    record { some = grind (arith, nat_tests, h); water_below = grind (arith, nat_tests, h); level_most = grind (arith, nat_tests, h); laid = laid_on_water es water level rising }

-- ---- one layer, by places

abbrev pub sum_above : ℕ → List CountingElement → ℕ → ℤ
sum_above from es level = weighted (weights_from from es level) es

pub record Layer (es : List CountingElement) (i from to level : ℕ) : Type 0 where
  pub rises : from ≤ to
  pub within : to ≤ 2 * level
  pub good : Good (get_or es i nothing).hundredths
  pub laid : Laid to (drop (i + 1) es) level
  pub adds : sum_above from (drop i es) level ≡ (pos (to - from) *ℤ (get_or es i nothing).hundredths) +ℤ sum_above to (drop (i + 1) es) level

module _ (es : List CountingElement) (i from level : ℕ) (laid : Laid from (drop i es) level) where
  layer_between : i + 1 < length es → Layer es i from ((get_or es i nothing).height + (get_or es (i + 1) nothing).height) level
  layer_between inside =
      let here = drop_more es i nothing (omega arith) in
      let after = drop_more es (i + 1) nothing inside in
      let whole = here ∙ ap (λ (rest : List CountingElement). get_or es i nothing ∷ rest) after in
      let parts = subst (λ (rest : List CountingElement). Laid from rest level) whole laid in
      record {
        rises = parts.0;
        within = parts.1;
        good = parts.2;
        laid = subst (λ (rest : List CountingElement). Laid ((get_or es i nothing).height + (get_or es (i + 1) nothing).height) rest level) (sym after) parts.3;
        adds = ap (λ (rest : List CountingElement). sum_above from rest level) whole ∙ ap (λ (rest : List CountingElement). (pos ((get_or es i nothing).height + (get_or es (i + 1) nothing).height - from) *ℤ (get_or es i nothing).hundredths) +ℤ sum_above ((get_or es i nothing).height + (get_or es (i + 1) nothing).height) rest level) (sym after);
      }

  layer_last : i < length es → length es ≤ i + 1 → Layer es i from (2 * level) level
  layer_last inside last =
      let none = drop_all (i + 1) es last in
      let whole = drop_more es i nothing inside ∙ ap (λ (rest : List CountingElement). get_or es i nothing ∷ rest) none in
      let parts = subst (λ (rest : List CountingElement). Laid from rest level) whole laid in
      record {
        rises = parts.0;
        within = omega arith;
        good = parts.1;
        laid = subst (λ (rest : List CountingElement). Laid (2 * level) rest level) (sym none) tt;
        adds = ap (λ (rest : List CountingElement). sum_above from rest level) whole ∙ ap (λ (rest : List CountingElement). (pos (2 * level - from) *ℤ (get_or es i nothing).hundredths) +ℤ sum_above (2 * level) rest level) (sym none);
      }

  -- up to midway to the element above, or to the level
  pub layer_at : (to : ℕ) → i < length es → (i + 1 < length es → to ≡ (get_or es i nothing).height + (get_or es (i + 1) nothing).height) → (length es ≤ i + 1 → to ≡ 2 * level) → Layer es i from to level
  layer_at to inside midway top =
      let here : i + 1 ≤ length es = omega (arith, inside) in
      ⊎_elim
      (λ last. let enough : length es ≤ i + 1 = omega (arith, last) in subst (λ (x : ℕ). Layer es i from x level) (sym (top enough)) (layer_last inside enough))
      (λ above. subst (λ (x : ℕ). Layer es i from x level) (sym (midway above)) (layer_between above)) (eq-or-lt_of_le here)

-- ---- the sum so far

-- with the layers from `low` to `from` summed, as warm as good temperatures
abbrev pub Summed : ℕ → ℕ → ℤ → Type 0
Summed low from sum = Between (4000 * (from - low)) (15000 * (from - low)) sum

pub summed_more : (low from to : ℕ) (sum t : ℤ) → low ≤ from → from ≤ to → Good t → Summed low from sum → Summed low to (sum +ℤ (pos (to - from) *ℤ t))
summed_more low from to sum t p q h b =
    let n = to - from in
    wider (4000 * (from - low) + n * 4000) (15000 * (from - low) + n * 15000) (4000 * (to - low)) (15000 * (to - low)) (sum +ℤ (pos n *ℤ t)) (omega arith) (omega arith)
    (sum_between (4000 * (from - low)) (15000 * (from - low)) (n * 4000) (n * 15000) sum (pos n *ℤ t) b (product_between n n 4000 15000 t (omega arith) h))
