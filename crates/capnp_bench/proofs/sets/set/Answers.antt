-- A struct of the schema's sections has room for the field.
use Rattle.std.proofs.Common.{subst, sym}
use Rattle.capnp_arena.specs.Built.{built_at}
use Rattle.capnp_schema.specs.declared.schema.structs.StructSchema.{StructSchema}
use Rattle.capnp_slots.specs.Standing.{IsStanding}
use Rattle.capnp_bench.proofs.sets.set.Goals as goal

pub set-requires-clause-ready : goal.set-requires-clause-ready
set-requires-clause-ready c =
    subst (λ (z : StructSchema). IsStanding z c.args.arena.now c.args.place) (sym c.get_containing_struct.ensures.is)
    (record { planted = c.requires.standing.planted; room = c.requires.lies (built_at c.args.arena.now c.args.place) c.requires.standing.room })
