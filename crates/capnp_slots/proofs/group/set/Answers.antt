-- A struct of the group's schema is copied.
use Rattle.std.proofs.Common.{arith, subst, sym}
use Rattle.capnp_arena.specs.Built.{built_at}
use Rattle.capnp_wire.specs.Standing.{struct_levels, struct_of}
use Rattle.capnp_schema.specs.StructHandles.{number_of}
use Rattle.capnp_records.specs.Record.{Left}
use Rattle.capnp_slots.specs.Copied.{refusal_of}
use Rattle.capnp_slots.specs.GroupSets.{IsGroupSet, given_to_group}
use Rattle.capnp_slots.specs.Sources.{source_seen}
use Rattle.capnp_slots.specs.declared.source.Source.{Source}
use Rattle.capnp_slots.proofs.GroupCopies.{set_copied}
use Rattle.capnp_slots.proofs.group.set.Goals as goal

pub returns-clause-set : goal.returns-clause-set
returns-clause-set c =
    subst (λ (y : Source). IsGroupSet c.args.field (given_to_group c.args.field (source_seen y)) (built_at c.args.arena.now c.args.place) (refusal_of c.copy.result) (built_at c.copy.new.arena c.args.place)) (sym c.in-Struct.is)
    (set_copied c.args.field c.in-Some.group (Left (struct_levels c.in-Struct.reader)) (struct_of c.in-Struct.reader) (number_of c.in-Struct.schema) _ _ _ c.in-Some.ensures
    (omega (arith, c.if-given-from.false, c.from-given.ensures, c.from-2.ensures)) c.copy.ensures.copied)
