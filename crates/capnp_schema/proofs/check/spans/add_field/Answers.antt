-- A slot adds its span to the spots named; a group field adds its brand to those below,
-- since the type's own variant names that brand.
use Rattle.std.proofs.Common.{ap, ◌∙◌}
use Rattle.capnp_schema.specs.Types.{struct_brand, seen_variant}
use Rattle.capnp_schema.specs.Entries.{lists_seen}
use Rattle.capnp_schema.specs.Facts.Layers.{seen_which}
use Rattle.capnp_schema.proofs.Checking.SpanLemmas.{group_added, slot_added}
use Rattle.capnp_schema.proofs.check.spans.add_field.Goals as goal

pub returns-in_ok-push-in-Slot-clause-added : goal.returns-in_ok-push-in-Slot-clause-added
returns-in_ok-push-in-Slot-clause-added c = λ groups p. rw c.in_ok-push-in-Slot.ensures.items
    (slot_added groups (lists_seen c.args.lists.now) _ c.in-Some.typed _ _ _ _ _ p c.in-Some.ensures c.in-Slot.is (c.slot_span.ensures p))

pub returns-in_ok-push-in-Some-struct_brand-clause-added : goal.returns-in_ok-push-in-Some-struct_brand-clause-added
returns-in_ok-push-in-Some-struct_brand-clause-added c = λ groups p. rw c.in_ok-push-in-Some-struct_brand.ensures.items
    (group_added groups (lists_seen c.args.lists.now) _ c.in-Some.typed _ _ _ _ p c.in-Some.ensures c.in-Group.is (c.in-Some-struct_brand.ensures ∙ ap (λ v. struct_brand (seen_variant v)) c.which.ensures ∙ ap struct_brand (seen_which c.in-Some.typed.field_type.now)))
