use Rattle.std.proofs.Common.{◌≡◌, drop}
use Rattle.capnp_floats.specs.Words.{kind_at, kind_of}
use Rattle.capnp_floats.proofs.grammar.kind_of.Given as goal

-- what is left is read as all would be
abbrev pub invariant-loop-index : goal.invariant-loop-index
invariant-loop-index l = kind_at l.expected l.index (drop l.index l.word) ≡ kind_of l.word
