use Rattle.capnp_schema.specs.Entries.{lists_seen}
use Rattle.capnp_schema.proofs.EntryTables.{EachTable}
use Rattle.capnp_schema.proofs.Checking.SpanTables.{NameWhatField}
use Rattle.capnp_schema.proofs.check.spans.brand_spans.Given as goal

abbrev pub invariant-loop-field : goal.invariant-loop-field
invariant-loop-field l = EachTable (NameWhatField (lists_seen l.lists) l.brand) l.all.items l.field
