use Rattle.std.proofs.Common.{◌≡◌, ◌+◌, ◌++◌, drop}
use Rattle.capnp_words.specs.Reads.{read_as}
use Rattle.capnp_words.specs.Quoted.{quoted_at}
use Rattle.capnp_words.specs.Steps.Quoted.{IsReached}
use Rattle.capnp_words.proofs.quoted.read_quoted.Given as goal

abbrev pub invariant-loop-index : goal.invariant-loop-index
invariant-loop-index l = record {
  read : read_as (λ rest. l.bytes.items ++ rest) (quoted_at l.expected (l.place + l.index) (drop l.index l.word)) ≡ quoted_at l.fn.first l.place l.word;
  reached : IsReached l.expected;
}
