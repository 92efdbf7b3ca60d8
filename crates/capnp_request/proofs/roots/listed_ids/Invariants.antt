-- What is left are the records from the next one on.
use Rattle.std.proofs.Common.{◌≡◌}
use Rattle.capnp_request.specs.Steps.Handles.{values_left}
use Rattle.capnp_request.specs.Reading.{all_said, each_said, id_said}
use Rattle.capnp_request.proofs.RootsNamed.{said_behind}
use Rattle.capnp_request.proofs.roots.listed_ids.Given as goal

abbrev pub invariant-loop-at : goal.invariant-loop-at
invariant-loop-at l = said_behind l.ids.items (all_said (each_said l.inner (id_said l.inner) (values_left l.listed l.at))) ≡ all_said (each_said l.inner (id_said l.inner) (values_left l.listed 0))
