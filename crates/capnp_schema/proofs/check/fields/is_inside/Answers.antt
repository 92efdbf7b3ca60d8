use Rattle.std.proofs.Common.{ap, subst, ◌∙◌}
use Rattle.std.specs.Bool.{Decides}
use Rattle.capnp_schema.specs.Types.{SchemaType, seen_variant}
use Rattle.capnp_schema.specs.Schema.{Slot, seen_node, seen_value}
use Rattle.capnp_schema.specs.Accepted.{LiesInside}
use Rattle.capnp_schema.specs.Facts.Layers.{seen_which}
use Rattle.capnp_schema.proofs.check.fields.is_inside.Goals as goal

pub returns-in-Slot : goal.returns-in-Slot
returns-in-Slot c = rw c.in-Slot.is (subst (λ (t : SchemaType). Decides c.slot_is_inside.result (LiesInside (seen_node c.args.node.now) (Slot c.in-Slot.offset (seen_value c.in-Slot.default)) t)) (ap seen_variant c.which.ensures ∙ seen_which c.args.of.now) (c.slot_is_inside.ensures (seen_value c.in-Slot.default)))
