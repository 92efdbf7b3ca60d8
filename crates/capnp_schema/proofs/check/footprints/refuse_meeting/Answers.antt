-- A field named at the spot breaks rule 11 with a second field that is named there, and rule 12
-- with the discriminant, where its span holds the spot.
use Rattle.std.proofs.Common.{arith, refl, sym, ap, ◌∙◌}
use Rattle.capnp_schema.specs.Schema.{Node, seen_node}
use Rattle.capnp_schema.specs.Footprint.{discriminant_names}
use Rattle.capnp_schema.specs.Steps.Checking.Spans.{seen_spot}
use Rattle.capnp_schema.specs.Entries.{lists_seen}
use Rattle.capnp_schema.proofs.Checking.BrandRefusals.{refused_at_field, refused_at_discriminant}
use Rattle.capnp_schema.proofs.FieldCounts.{index_fits}
use Rattle.capnp_schema.proofs.FoundEntries.{found_node}
use Rattle.capnp_schema.proofs.Checking.SpanTables.{named_twice, discriminant_named}
use Rattle.capnp_schema.proofs.check.footprints.refuse_meeting.Goals as goal

pub overflow_cast-field : goal.overflow_cast-field
overflow_cast-field c = let lt = index_fits (lists_seen c.args.lists.now) c.args.brand c.in-Some.field c.requires.rule3 c.in-Some.ensures.field in omega arith

pub returns-in-Some-named_at : goal.returns-in-Some-named_at
returns-in-Some-named_at c = refused_at_field (lists_seen c.args.lists.now) c.refusal.result c.args.brand c.in-Some.field c.refusal.ensures
    (named_twice (lists_seen c.args.lists.now) c.args.brand c.in-Some.field _ _ _ c.requires.within c.in-Some.ensures c.in-Some-named_at.ensures)

pub overflow_cast-field-in-Some-named_at-2 : goal.overflow_cast-field-in-Some-named_at-2
overflow_cast-field-in-Some-named_at-2 c = let lt = index_fits (lists_seen c.args.lists.now) c.args.brand c.in-Some-named_at-2.field c.requires.rule3 c.in-Some-named_at-2.ensures.field in omega arith

pub returns-in-Some-named_at-2 : goal.returns-in-Some-named_at-2
returns-in-Some-named_at-2 c = refused_at_discriminant (lists_seen c.args.lists.now) c.refusal-in-Some-named_at-2.result c.args.brand c.in-Some-named_at-2.field c.refusal-in-Some-named_at-2.ensures
    (discriminant_named (lists_seen c.args.lists.now) c.args.brand c.in-Some-named_at-2.field _ _ (seen_spot c.args.spot) c.requires.within c.in-Some-named_at-2.ensures
    (ap (λ (m : Node). discriminant_names m (seen_spot c.args.spot)) (found_node (lists_seen c.args.lists.now) c.args.brand (seen_node c.in-Some-node_of.node.now) c.in-Some-node_of.ensures) ∙ sym (c.discriminant_span.ensures (seen_spot c.args.spot)) ∙ c.if-holds_spot.ensures refl))
