-- One list of spans is pushed for each field, and each so far names what the field at its
-- index names; at the end these are all fields.
use Rattle.std.proofs.Common.{arith}
use Rattle.capnp_schema.specs.Entries.{lists_seen}
use Rattle.capnp_schema.proofs.EntryTables.{one_table}
use Rattle.capnp_schema.proofs.Checking.SpanTables.{NameWhatField, spans_of_all}
use Rattle.capnp_schema.proofs.check.spans.brand_spans.Goals as goal

pub loop-field-preserved : goal.loop-field-preserved
loop-field-preserved c = rw c.in_ok-push.ensures.items (one_table (NameWhatField (lists_seen c.args.lists.now) c.args.brand) _ _ _ c.loop-field.invariant c.in_ok-field_spans.ensures.spans)

pub returns-clause-spans : goal.returns-clause-spans
returns-clause-spans c = spans_of_all (lists_seen c.args.lists.now) c.args.brand _ _ c.loop-field.invariant (omega arith)
