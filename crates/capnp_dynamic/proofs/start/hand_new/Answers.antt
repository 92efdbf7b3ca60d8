-- The pointer is handed out under the field's set and type.
use Rattle.std.proofs.Common.{true, ap, ◌∙◌}
use Rattle.capnp_schema.specs.Entries.{lists_seen}
use Rattle.capnp_schema.specs.Facts.Layers.{seen_which}
use Rattle.capnp_schema.specs.FieldLists.{typed_of}
use Rattle.capnp_schema.specs.StructHandles.{set_of}
use Rattle.capnp_schema.specs.Types.{seen_variant}
use Rattle.capnp_arena.specs.Built.{built_at}
use Rattle.capnp_slots.specs.Fields.{field_set}
use Rattle.capnp_slots.specs.Fills.{pointer_in}
use Rattle.capnp_dynamic.proofs.HandedOut.{can_hand, handed_out}
use Rattle.capnp_dynamic.proofs.start.hand_new.Goals as goal

pub hand_out-requires-clause-handed : goal.hand_out-requires-clause-handed
hand_out-requires-clause-handed c =
    let f = c.args.field in
    can_hand (lists_seen c.get_set-schemas.result.now) (field_set f) (seen_variant c.which-variant.result) (typed_of f).type _ (pointer_in f (built_at c.args.arena.now c.args.place))
    (c.get_set-schemas.ensures ∙ ap set_of c.get_containing_struct.ensures.is)
    (ap seen_variant c.which-variant.ensures ∙ (seen_which c.get_type.result ∙ c.get_type.ensures.is))
    c.pointer-at.ensures.tree c.requires.handed

pub returns-clause-stands : goal.returns-clause-stands
returns-clause-stands c =
    let f = c.args.field in
    handed_out true (lists_seen c.get_set-schemas.result.now) (field_set f) (seen_variant c.which-variant.result) (typed_of f).type _ (pointer_in f (built_at c.args.arena.now c.args.place)) c.hand_out.result
    (c.get_set-schemas.ensures ∙ ap set_of c.get_containing_struct.ensures.is)
    (ap seen_variant c.which-variant.ensures ∙ (seen_which c.get_type.result ∙ c.get_type.ensures.is))
    c.pointer-at.ensures.tree
    c.hand_out.ensures.stands

pub returns-clause-there : goal.returns-clause-there
returns-clause-there c = record { at = c.pointer-at.result; stands = c.hand_out.ensures.behind; leaves = c.pointer-at.ensures.leaves }
