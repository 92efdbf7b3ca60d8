-- What the elements so far stand for was read, and the rest is still to be read.
use Rattle.std.proofs.Common.{map}
use Rattle.capnp_schema.specs.Meta.{meta_struct}
use Rattle.capnp_sets.specs.Steps.Handles.{values_in}
use Rattle.capnp_sets.specs.Parts.{struct}
use Rattle.capnp_sets.proofs.ListsRead.{ListReadTo}
use Rattle.capnp_sets.proofs.rows.all_read.Given as goal

abbrev pub invariant-loop-index : goal.invariant-loop-index
invariant-loop-index g l = ListReadTo (meta_struct g.T.FromRecord.brand) (struct (g.T.FromRecord.of_record (values_in l.context.brands))) l.elements (map g.T.FromRecord.seen l.out.items) l.index
