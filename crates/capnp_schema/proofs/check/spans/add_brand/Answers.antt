-- What a brand adds is what its fields add, and then the span of its discriminant if its
-- node is there; without a node the fields' part is all.
use Rattle.capnp_schema.specs.Entries.{lists_seen}
use Rattle.capnp_schema.specs.Schema.{seen_node}
use Rattle.capnp_schema.proofs.Checking.SpanLemmas.{brand_added, fields_alone}
use Rattle.capnp_schema.proofs.check.spans.add_brand.Goals as goal

pub returns-in_ok-push-clause-added : goal.returns-in_ok-push-clause-added
returns-in_ok-push-clause-added c = λ groups p. rw c.in_ok-push.ensures.items
    (brand_added (lists_seen c.args.lists.now) groups c.args.brand p _ _ _ (seen_node c.in-Some.node.now) _ c.in-Some.ensures (c.in_ok-add_fields.ensures.added groups p) (c.discriminant_span.ensures p))

pub returns-in_default-clause-added : goal.returns-in_default-clause-added
returns-in_default-clause-added c = λ groups p.
    fields_alone (lists_seen c.args.lists.now) groups c.args.brand p _ _ c.in_default.ensures (c.in_ok-add_fields.ensures.added groups p)
