use Rattle.std.proofs.Common.{◌≡◌, ◌+◌, ◌*◌, ◌^◌, ◌<◌, ◌≤◌, ◌++◌, length, take, drop}
use Rattle.probe.specs.Counted.{counting, counting_word}
use Rattle.probe.specs.Probes.{most_elements}
use Rattle.probe.proofs.counting.selecting.counting_among.Given as goal

-- what was chosen, and then what counts of those left
abbrev pub invariant-loop-i : goal.invariant-loop-i
invariant-loop-i l =
    (take l.count l.list ++ counting l.water l.level (drop l.i l.elements) ≡ counting l.water l.level l.elements)
    × (l.word + 2 ^ l.i * counting_word l.water l.level (drop l.i l.elements) ≡ counting_word l.water l.level l.elements)
    × (l.word < 2 ^ l.i)
    × (l.count ≤ l.i)
    × (length l.list ≡ most_elements)
