-- What the lists so far stand for was read, and the rest is still to be read.
use Rattle.std.proofs.Common.{map}
use Rattle.capnp_schema.specs.Meta.{meta_structs}
use Rattle.capnp_schema.specs.Types.{seen_type}
use Rattle.capnp_sets.specs.Steps.Handles.{values_in}
use Rattle.capnp_sets.specs.Types.{types}
use Rattle.capnp_sets.proofs.ListsRead.{ListReadTo}
use Rattle.capnp_sets.proofs.types.type_lists.Given as goal

abbrev pub invariant-loop-index : goal.invariant-loop-index
invariant-loop-index l = ListReadTo (meta_structs 7) (types (values_in l.context.brands)) l.elements (map (λ ts. map seen_type ts.items) l.out.items) l.index
