use Rattle.capnp_schema.specs.Accepted.{HasWords}
use Rattle.capnp_schema.specs.Schema.{Annotation, seen_annotations}
use Rattle.capnp_schema.proofs.EntryWalk.{StandBelow}
use Rattle.capnp_schema.proofs.check.values.have_words.Given as goal

abbrev pub invariant-loop-i : goal.invariant-loop-i
invariant-loop-i l = StandBelow (seen_annotations l.annotations) (λ (a : Annotation). HasWords a.value) l.i
