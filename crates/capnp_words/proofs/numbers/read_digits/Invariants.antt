use Rattle.std.proofs.Common.{◌≡◌, ◌+◌, ◌≤◌, drop}
use Rattle.capnp_words.specs.Numbers.{more_digits}
use Rattle.capnp_words.proofs.numbers.read_digits.Given as goal

-- what is left is read as all would be
abbrev pub invariant-loop-index : goal.invariant-loop-index
invariant-loop-index l = record {
  rest : more_digits l.limit l.number (l.place + l.index) (drop l.index l.bytes) ≡ more_digits l.limit 0 l.place l.bytes;
  inside : l.number ≤ l.limit;
}
