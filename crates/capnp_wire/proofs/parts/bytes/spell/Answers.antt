use Rattle.std.proofs.Common.{arith, ◌-◌}
use Rattle.capnp_wire.proofs.Spelled.{spelled_drop_below}
use Rattle.capnp_wire.proofs.parts.bytes.spell.Goals as goal

pub overflow_mul-number : goal.overflow_mul-number
overflow_mul-number c = omega (arith, spelled_drop_below c.args.bytes.now c.loop-i.i c.type_inv.bytes c.requires (omega arith))

pub overflow_add-number : goal.overflow_add-number
overflow_add-number c = omega (arith, c.type_inv.bytes (c.loop-i.i - 1), spelled_drop_below c.args.bytes.now c.loop-i.i c.type_inv.bytes c.requires (omega arith))
