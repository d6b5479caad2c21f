use Rattle.std.proofs.Common.{◌≡◌, drop}
use Rattle.journal.specs.Words.{decimal, decimal_after}
use Rattle.journal.proofs.words.number.Given as goal

abbrev pub invariant-loop-byte : goal.invariant-loop-byte
invariant-loop-byte l = decimal l.word ≡ decimal_after l.value (drop l.byte-index l.word)
