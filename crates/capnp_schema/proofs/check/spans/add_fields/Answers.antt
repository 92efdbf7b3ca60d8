use Rattle.capnp_schema.specs.Entries.{lists_seen}
use Rattle.capnp_schema.specs.Schema.{fields_of}
use Rattle.capnp_schema.proofs.Checking.SpanLemmas.{field_added}
use Rattle.capnp_schema.proofs.check.spans.add_fields.Goals as goal

pub loop-i-preserved : goal.loop-i-preserved
loop-i-preserved c = λ groups p.
    field_added groups (lists_seen c.args.lists.now) (fields_of (lists_seen c.args.lists.now) c.args.brand) p _ _ c.loop-i.i _ (c.in_ok-add_field.ensures.added groups p) (c.loop-i.invariant groups p)
