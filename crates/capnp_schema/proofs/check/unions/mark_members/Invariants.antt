use Rattle.std.proofs.Common.{length, map, ◌≡◌}
use Rattle.capnp_schema.specs.Schema.{seen_field}
use Rattle.capnp_schema.specs.Steps.Checking.Marks.{Marked}
use Rattle.capnp_schema.proofs.check.unions.mark_members.Given as goal

abbrev pub invariant-loop-field : goal.invariant-loop-field
invariant-loop-field l = record { counted : length l.marks ≡ length l.initial.marks; so_far : Marked (map seen_field l.fields) l.field-index l.marks }
