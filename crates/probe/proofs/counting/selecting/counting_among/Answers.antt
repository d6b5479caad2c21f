use Rattle.std.proofs.Common.{◌≡◌, ℕ, ◌+◌, ◌*◌, ◌^◌, ◌<◌, List, [], ◌∷◌, ◌++◌, length, take, drop, Option, sym, ap, ◌∙◌, append_assoc, arith, length-set}
use Rattle.std.proofs.lemmas.List.{at_drop_more, take_more_set}
use Rattle.std.specs.List.{cons_option}
use Rattle.working.specs.declared.element.CountingElement.{CountingElement}
use Rattle.probe.specs.Elements.{new_element}
use Rattle.probe.specs.Counted.{counting, counting_word, bit_of}
use Rattle.probe.proofs.Words.{set_bit, bit_more, word_below, word_still_below}
use Rattle.probe.proofs.counting.selecting.counting_among.Goals as goal
use Rattle.probe.proofs.counting.selecting.counting_among.Goals.{in-Some, in_default}

pub loop-i-preserved : goal.loop-i-preserved
loop-i-preserved c =
    let water = c.args.water in
    let level = c.args.level in
    let elements = c.args.elements.now in
    let i = c.loop-i.i in
    let held = c.loop-i.list in
    let so_far : List CountingElement = take c.loop-i.count held in
    let word = c.loop-i.word in
    let after : List CountingElement = counting water level (drop (i + 1) elements) in
    let word_after : ℕ = counting_word water level (drop (i + 1) elements) in
    let total : ℕ = counting_word water level elements in
    let joined : List CountingElement → List CountingElement = λ es. so_far ++ es in
    let raised : ℕ → ℕ = λ n. word + 2 ^ i * n in
    let chosen_with : Option CountingElement → List CountingElement = λ found. so_far ++ cons_option found after in
    let word_with : Option CountingElement → ℕ = λ found. word + 2 ^ i * (bit_of found + 2 * word_after) in
    let told = c.counted.ensures in
    let list_left : chosen_with c.counted.result ≡ counting water level elements = ap chosen_with told ∙ sym (ap joined (at_drop_more (counting water level) elements i (new_element 0) c.loop-i-test.true)) ∙ c.loop-i.invariant.0 in
    let word_left : word_with c.counted.result ≡ total = ap word_with told ∙ sym (ap raised (at_drop_more (counting_word water level) elements i (new_element 0) c.loop-i-test.true)) ∙ c.loop-i.invariant.1 in
    let below = c.loop-i.invariant.2 in
    let few = c.loop-i.invariant.3 in
    let all = c.loop-i.invariant.4 in
    elim c.match-counted.branch [
      | in-Some w ↦
          let e = w.in-Some.element in
          let found = w.in-Some.is in
          let room : c.loop-i.count < length held = omega (arith, few, all) in
          let list_now : take c.match-counted.count c.match-counted.list ≡ so_far ++ (e ∷ []) = simp (w.list-is, w.count-is) (take_more_set held c.loop-i.count e room) in
          let word_now : c.match-counted.word ≡ 2 ^ i + word = w.word-is ∙ set_bit word i below (omega arith) in
          let more = bit_more word i 1 word_after total (sym (ap word_with found) ∙ word_left) in (
            ap (λ (es : List CountingElement). es ++ after) list_now ∙ append_assoc so_far (e ∷ []) after ∙ sym (ap chosen_with found) ∙ list_left,
            omega (arith, word_now, more),
            omega (arith, word_now, word_below word i below),
            omega (arith, w.count-is, few),
            ap (length {A = CountingElement}) w.list-is ∙ length-set held c.loop-i.count e ∙ all,
          )
      | in_default w ↦
          let missed = w.in_default.is in
          let list_now : take c.match-counted.count c.match-counted.list ≡ so_far = simp (w.list-is, w.count-is) in
          let more = bit_more word i 0 word_after total (sym (ap word_with missed) ∙ word_left) in (
            ap (λ (es : List CountingElement). es ++ after) list_now ∙ sym (ap chosen_with missed) ∙ list_left,
            omega (arith, w.word-is, more),
            omega (arith, w.word-is, word_still_below word i below),
            omega (arith, w.count-is, few),
            ap (length {A = CountingElement}) w.list-is ∙ all,
          )
    ]
