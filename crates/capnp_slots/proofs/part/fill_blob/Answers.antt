-- A default that is no bytes fills nothing.
use Rattle.std.proofs.Common.{refl}
use Rattle.capnp_arena.specs.Built.{built_at}
use Rattle.capnp_slots.proofs.Filled.{no_blob, same_there}
use Rattle.capnp_slots.proofs.part.fill_blob.Goals as goal

pub returns-in_default-clause-ok : goal.returns-in_default-clause-ok
returns-in_default-clause-ok c = same_there (built_at c.args.arena.now c.args.place) (built_at c.args.arena.now c.args.place) c.args.index _ refl (no_blob _ c.get_default.result _ c.get_default.ensures.view c.in_default.not-Text c.in_default.not-Data)
