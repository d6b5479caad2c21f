-- The elements that count from the water up to the level, and the word that names them.
use Rattle.std.specs.Prelude.{ℕ, ◌+◌, ◌*◌, List, [], ◌∷◌, take, Some, None, Option}
use Rattle.std.specs.List.{filter_map}
use Rattle.working.specs.declared.element.CountingElement.{CountingElement}
use Rattle.probe.specs.declared.element.ProbeElement.{ProbeElement}
use Rattle.probe.specs.declared.counting.Counting.{Counting}
use Rattle.probe.specs.Elements.{counted}

abbrev pub chosen : Counting → List CountingElement
chosen c = take c.count c.list

-- those that count, from the bottom up
abbrev pub counting : ℕ → ℕ → List ProbeElement → List CountingElement
counting water level es = filter_map (counted water level) es

abbrev pub bit_of : Option CountingElement → ℕ
bit_of None = 0
bit_of (Some e) = 1

-- the first element is the lowest bit
abbrev pub counting_word : ℕ → ℕ → List ProbeElement → ℕ
counting_word water level [] = 0
counting_word water level (e ∷ es) = bit_of (counted water level e) + 2 * counting_word water level es
