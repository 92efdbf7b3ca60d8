-- The walk keeps that the fields before the index are shared.
-- The fields read at the index are the two structs' own, so their answer is of that index.
use Rattle.std.proofs.Common.{below_more, refl, subst}
use Rattle.capnp_schema.specs.Entries.{lists_seen}
use Rattle.capnp_schema.specs.FieldLists.{typed_of}
use Rattle.capnp_schema.specs.Schema.{TypedField, field_at}
use Rattle.capnp_records.specs.Compatible.{SharedField}
use Rattle.capnp_compatible.specs.Steps.Closing.{all_pairs}
use Rattle.capnp_compatible.proofs.fields.are_fields_shared.Goals as goal

pub loop-i-preserved : goal.loop-i-preserved
loop-i-preserved c = below_more (λ i. SharedField c.args.lists (lists_seen c.args.schemas.now) all_pairs (field_at (lists_seen c.args.schemas.now) c.args.older i) (field_at (lists_seen c.args.schemas.now) c.args.newer i)) c.loop-i.i c.loop-i.invariant
    (subst (λ (y : TypedField). SharedField c.args.lists (lists_seen c.args.schemas.now) all_pairs (field_at (lists_seen c.args.schemas.now) c.args.older c.loop-i.i) y) c.field_of-in-loop-i.ensures
    (subst (λ (x : TypedField). SharedField c.args.lists (lists_seen c.args.schemas.now) all_pairs x (typed_of c.field_of-in-loop-i.result)) c.field_of.ensures (c.if-not-is_shared.ensures.0 refl)))
