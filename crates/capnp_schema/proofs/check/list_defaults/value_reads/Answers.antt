use Rattle.capnp_schema.proofs.Checking.ReadDefaults.{layer_read}
use Rattle.capnp_schema.proofs.check.list_defaults.value_reads.Goals as goal

pub returns-in-List : goal.returns-in-List
returns-in-List c = rw c.in-List.is (layer_read _ _ c.args.field_type.now c.which.result c.which.ensures (rw c.as_slice.ensures.value at c.layer_reads.ensures))
