-- What is left is a piece for each list around the inner type.
use Rattle.std.proofs.Common.{◌≡◌, ◌++◌}
use Rattle.capnp_base.specs.Types.{list_depth}
use Rattle.capnp_request.specs.Steps.NamesMade.{repeated_piece}
use Rattle.capnp_request.proofs.names.append_lists.Given as goal

abbrev pub invariant-loop-element : goal.invariant-loop-element
invariant-loop-element l = l.name.items ++ repeated_piece (list_depth l.inner) l.piece ≡ l.fn.name.items ++ repeated_piece (list_depth l.fn.bound) l.piece

abbrev pub decreases-loop-element : goal.decreases-loop-element
decreases-loop-element l = list_depth l.inner
