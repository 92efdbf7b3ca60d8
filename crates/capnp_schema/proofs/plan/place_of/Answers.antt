-- A slot that lies inside the sections has an offset that fits them at their largest.
use Rattle.std.proofs.Common.{arith, ap, subst, ◌+◌, ◌*◌, ◌≤◌, ◌<◌}
use Rattle.capnp_schema.specs.Types.{seen_type, width}
use Rattle.capnp_schema.specs.Schema.{seen_kind, seen_node, seen_value, Slot}
use Rattle.capnp_schema.specs.Accepted.{LiesInside}
use Rattle.capnp_schema.proofs.plan.place_of.Goals as goal

pub slot_place-requires-clause-bits : goal.slot_place-requires-clause-bits
slot_place-requires-clause-bits c =
    let lies : LiesInside (seen_node c.args.node.now) (Slot c.in-Slot.offset (seen_value c.in-Slot.default)) (seen_type c.args.field_type.now) =
    subst (λ k. LiesInside (seen_node c.args.node.now) k (seen_type c.args.field_type.now)) (ap seen_kind c.in-Slot.is) c.requires in
    let bits : (c.in-Slot.offset + 1) * width (seen_type c.args.field_type.now) ≤ 64 * c.args.node.now.body.data_word_count = lies.0 in
    omega arith

pub slot_place-requires-clause-pointer : goal.slot_place-requires-clause-pointer
slot_place-requires-clause-pointer c = λ pointer.
    let lies : LiesInside (seen_node c.args.node.now) (Slot c.in-Slot.offset (seen_value c.in-Slot.default)) (seen_type c.args.field_type.now) =
    subst (λ k. LiesInside (seen_node c.args.node.now) k (seen_type c.args.field_type.now)) (ap seen_kind c.in-Slot.is) c.requires in
    let below : c.in-Slot.offset < c.args.node.now.body.pointer_count = lies.1 pointer in
    omega arith
