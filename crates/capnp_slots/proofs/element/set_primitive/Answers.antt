-- The number that is given stands in the element.
use Rattle.std.proofs.Common.{◌≡◌, ap, subst, sym, ◌∙◌}
use Rattle.capnp_arena.specs.Forest.{tree}
use Rattle.capnp_arena.specs.Segment.{segment}
use Rattle.capnp_schema.specs.Entries.{lists_seen}
use Rattle.capnp_schema.specs.Facts.Layers.{seen_which}
use Rattle.capnp_schema.specs.Types.{SchemaType, seen_type, seen_variant}
use Rattle.capnp_records.specs.Writes.ElementEnds.{HasElementThere}
use Rattle.capnp_slots.proofs.SetElements.{number_set, number_small}
use Rattle.capnp_slots.proofs.element.set_primitive.Goals as goal

pub store_element-requires-clause-room : goal.store_element-requires-clause-room
store_element-requires-clause-room c =
    let t : seen_variant c.which.result ≡ seen_type c.args.element = ap seen_variant c.which.ensures ∙ seen_which c.args.element in
    subst (λ (u : SchemaType). HasElementThere u (tree (segment c.args.arena.now) c.args.at) c.args.index) (sym t) c.requires.room

pub store_element-requires-clause-fits : goal.store_element-requires-clause-fits
store_element-requires-clause-fits c =
    let t : seen_variant c.which.result ≡ seen_type c.args.element = ap seen_variant c.which.ensures ∙ seen_which c.args.element in
    number_small (lists_seen c.args.schemas.now) (seen_type c.args.element) (seen_variant c.which.result) _ c.in_ok-number.number (sym t) c.in_ok-number.ensures.number

pub returns-clause-set : goal.returns-clause-set
returns-clause-set c =
    let t : seen_variant c.which.result ≡ seen_type c.args.element = ap seen_variant c.which.ensures ∙ seen_which c.args.element in
    number_set (lists_seen c.args.schemas.now) (seen_type c.args.element) (seen_variant c.which.result) _ c.in_ok-number.number c.args.index _ _ t c.in_ok-number.ensures.number c.in_ok-number.ensures.given
    c.store_element.ensures.written
