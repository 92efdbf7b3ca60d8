-- The field at a place, by what is cleared there and what the source has.
use Rattle.std.proofs.Common.{◌∙◌, sym}
use Rattle.capnp_wire.specs.Standing.{struct_levels, struct_of}
use Rattle.capnp_records.specs.Record.{Left}
use Rattle.capnp_slots.proofs.CopyWays.{copied_first, copied_missing, copied_none, copied_there}
use Rattle.capnp_slots.proofs.group_copy.copied_at.Goals as goal

pub returns-then-next-eq0 : goal.returns-then-next-eq0
returns-then-next-eq0 c = copied_first c.args.schema (Left (struct_levels c.args.source.now)) (struct_of c.args.source.now) c.args.next _ c.if-next-eq0.true c.active_member.ensures

pub returns-in_default : goal.returns-in_default
returns-in_default c = copied_none c.args.schema (Left (struct_levels c.args.source.now)) (struct_of c.args.source.now) c.args.next c.if-next-eq0.false c.in_default.ensures

pub returns-then-has : goal.returns-then-has
returns-then-has c = copied_there c.args.schema (Left (struct_levels c.args.source.now)) (struct_of c.args.source.now) c.args.next c.in-Some.field c.if-next-eq0.false c.in-Some.ensures (sym c.has.ensures ∙ c.if-has.true)

pub returns-else-has : goal.returns-else-has
returns-else-has c = copied_missing c.args.schema (Left (struct_levels c.args.source.now)) (struct_of c.args.source.now) c.args.next c.in-Some.field c.if-next-eq0.false c.in-Some.ensures (sym c.has.ensures ∙ c.if-has.false)
