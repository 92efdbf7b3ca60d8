-- What is left is a piece for each list around the inner type.
use Rattle.std.proofs.Common.{◌≡◌, ◌++◌, string_bytes}
use Rattle.capnp_base.specs.Types.{list_depth}
use Rattle.capnp_structs.specs.Steps.Fields.{repeated_words}
use Rattle.capnp_structs.proofs.fields.put_lists.Given as goal

abbrev pub invariant-loop-element : goal.invariant-loop-element
invariant-loop-element l = string_bytes l.out ++ repeated_words (list_depth l.rest) l.piece ≡ string_bytes l.fn.out ++ repeated_words (list_depth l.fn.of) l.piece

abbrev pub decreases-loop-element : goal.decreases-loop-element
decreases-loop-element l = list_depth l.rest
