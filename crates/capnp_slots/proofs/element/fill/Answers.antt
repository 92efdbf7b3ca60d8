-- The element's type is that of its variant.
use Rattle.std.proofs.Common.{ap, subst, ◌≡◌, ◌∙◌, None, IfErr, OnOk}
use Rattle.capnp_wire.specs.Edits.{IsDueRefusal}
use Rattle.capnp_wire.specs.Elements.{with_pointer_element}
use Rattle.capnp_arena.specs.Forest.{tree}
use Rattle.capnp_arena.specs.Segment.{segment}
use Rattle.capnp_wire.specs.Reading.{element_pointer}
use Rattle.capnp_schema.specs.Entries.{lists_seen}
use Rattle.capnp_schema.specs.Facts.Layers.{seen_which}
use Rattle.capnp_schema.specs.Types.{SchemaType, seen_variant}
use Rattle.capnp_slots.specs.Fills.{element_due, element_filled}
use Rattle.capnp_slots.proofs.element.fill.Goals as goal

pub returns-clause-filled : goal.returns-clause-filled
returns-clause-filled c =
    subst (λ (t : SchemaType). OnOk c.fill_at.result (tree (segment c.fill_at.new.arena) c.args.at ≡ with_pointer_element c.args.index (element_filled (lists_seen c.args.schemas.now) t (element_pointer (tree (segment c.args.arena.now) c.args.at) c.args.index 1)) (tree (segment c.args.arena.now) c.args.at)))
    (ap seen_variant c.which.ensures ∙ seen_which c.args.element)
    c.fill_at.ensures.filled

pub returns-clause-within : goal.returns-clause-within
returns-clause-within c =
    subst (λ (t : SchemaType). OnOk c.fill_at.result (element_due (lists_seen c.args.schemas.now) t (element_pointer (tree (segment c.args.arena.now) c.args.at) c.args.index 1) ≡ None))
    (ap seen_variant c.which.ensures ∙ seen_which c.args.element)
    c.fill_at.ensures.within

pub returns-clause-cause : goal.returns-clause-cause
returns-clause-cause c =
    subst (λ (t : SchemaType). IfErr c.fill_at.result (λ e. IsDueRefusal e (element_due (lists_seen c.args.schemas.now) t (element_pointer (tree (segment c.args.arena.now) c.args.at) c.args.index 1))))
    (ap seen_variant c.which.ensures ∙ seen_which c.args.element)
    c.fill_at.ensures.cause
