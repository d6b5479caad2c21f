-- What the word of counting elements means.
use Rattle.std.specs.Prelude.{◌≡◌, ℕ, ◌/◌, ◌%◌, ◌^◌, ◌<◌, List, length, count_ones, slice_index_or}
use Rattle.probe.specs.declared.element.ProbeElement.{ProbeElement}
use Rattle.probe.specs.Elements.{counted, new_element}
use Rattle.probe.specs.Counted.{counting, counting_word, bit_of}

pub record CountingLaws : Type 0 where
  -- bit k is set exactly where element k + 1 counts
  pub bits : (water level : ℕ) (es : List ProbeElement) (k : ℕ) → k < length es → (counting_word water level es / 2 ^ k) % 2 ≡ bit_of (counted water level (slice_index_or es k (new_element 0)))
  -- as many ones as elements count
  pub ones_count : (water level : ℕ) (es : List ProbeElement) → count_ones (counting_word water level es) ≡ length (counting water level es)
