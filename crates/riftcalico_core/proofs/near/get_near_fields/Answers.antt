-- One field more.
use Rattle.std.proofs.Common.{rules, string_bytes}
use Rattle.capnp_schema.specs.StructHandles.{struct_fields}
use Rattle.riftcalico_core.proofs.NearNames.{fields_next}
use Rattle.riftcalico_core.proofs.near.get_near_fields.Goals as goal

pub loop-index-preserved : goal.loop-index-preserved
loop-index-preserved c =
    fields_next c.args.asked.now (string_bytes c.loop-index.note) (string_bytes c.put_near.new.note) c.as_str.result.now (struct_fields c.args.schema) c.loop-index.index (search rules) (search rules)
    c.in_ok-put_near.ensures.put c.loop-index.invariant
