use Rattle.std.proofs.Common.{◌≡◌, drop, Some}
use Rattle.riftcalico_words.specs.Numbers.{more_digits}
use Rattle.riftcalico_words.proofs.numbers.read_number.Given as goal

-- what is left is read as all would be
abbrev pub invariant-loop-byte : goal.invariant-loop-byte
invariant-loop-byte l = more_digits l.number (drop l.byte-index l.word) ≡ more_digits (Some 0) l.word
