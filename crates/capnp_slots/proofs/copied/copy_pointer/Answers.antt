-- A null is copied as the default, and everything else as it stands.
use Rattle.std.proofs.Common.{arith}
use Rattle.capnp_arena.specs.Built.{built_at}
use Rattle.capnp_wire.specs.Standing.{levels_of, tree_of}
use Rattle.capnp_slots.proofs.CopiedSlots.{null_cause, null_copied, there_cause, there_copied}
use Rattle.capnp_slots.proofs.copied.copy_pointer.Goals as goal

pub returns-then-is_null-clause-copied : goal.returns-then-is_null-clause-copied
returns-then-is_null-clause-copied c =
    null_copied c.args.field (levels_of c.args.pointer) (tree_of c.args.pointer) c.in_ok-check_copy.ensures.given _ _ c.put_default.result
    (grind (arith, c.is_null.ensures, c.if-is_null.true)) c.put_default.ensures.written c.put_default.ensures.kept

pub returns-then-is_null-clause-cause : goal.returns-then-is_null-clause-cause
returns-then-is_null-clause-cause c =
    null_cause c.args.field (levels_of c.args.pointer) (tree_of c.args.pointer) c.in_ok-check_copy.ensures.given (built_at c.args.arena.now c.args.place) (built_at c.args.arena.now c.args.place) c.put_default.result c.put_default.ensures.cause

pub returns-else-is_null-clause-copied : goal.returns-else-is_null-clause-copied
returns-else-is_null-clause-copied c =
    there_copied c.args.field (levels_of c.args.pointer) (tree_of c.args.pointer) c.in_ok-check_copy.ensures.given _ _ c.put.result
    (grind (arith, c.is_null.ensures, c.if-is_null.false)) c.put.ensures.written c.put.ensures.kept c.put.ensures.sound

pub returns-else-is_null-clause-cause : goal.returns-else-is_null-clause-cause
returns-else-is_null-clause-cause c =
    there_cause c.args.field (levels_of c.args.pointer) (tree_of c.args.pointer) c.in_ok-check_copy.ensures.given (built_at c.args.arena.now c.args.place) (built_at c.args.arena.now c.args.place) c.put.result c.put.ensures.cause
