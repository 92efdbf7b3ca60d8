-- By the rules of an accepted set a brand has one type for each annotation of its node, of which there are few, and each
-- type names an entry. Without a brand there are none.
use Rattle.std.proofs.Common.{◌<◌, ◌^◌, ap, sym, ◌∙◌, subst, length}
use Rattle.std.proofs.lemmas.List.{length-map}
use Rattle.capnp_schema.specs.declared.lists.Lists.{Lists}
use Rattle.capnp_schema.specs.Entries.{lists_seen}
use Rattle.capnp_schema.specs.Types.{seen_type}
use Rattle.capnp_schema.specs.Schema.{seen_annotation, seen_brand, seen_node}
use Rattle.capnp_schema.specs.Accepted.{IsAccepted}
use Rattle.capnp_schema.specs.Annotated.{annotations_of, struct_annotations}
use Rattle.capnp_schema.proofs.AnnotatedLemmas.{same_parts}
use Rattle.capnp_schema.proofs.AnnotatedPlaces.{own_types, few_own, no_struct, struct_is, struct_whole_everywhere}
use Rattle.capnp_schema.proofs.NamedTypes.{brand_own_named}
use Rattle.capnp_schema.proofs.schema.annotations.AnnotationList.of_struct.Goals as goal

pub returns-in_default-clause-typed : goal.returns-in_default-clause-typed
returns-in_default-clause-typed c = c.empty.ensures.entries ∙ no_struct (lists_seen c.accepted_lists-lists.result.now) c.accepted_lists-lists.ensures.accepted c.args.brand c.in_default.ensures
    ∙ ap (λ (l : Lists). struct_annotations (lists_seen l) c.args.brand) c.accepted_lists-lists.ensures.is

pub new-requires-clause-have_types : goal.new-requires-clause-have_types
new-requires-clause-have_types c =
    let same = own_types (lists_seen c.accepted_lists-lists.result.now) c.accepted_lists-lists.ensures.accepted c.args.brand (seen_brand c.in-Some.record.now) (seen_node c.in-Some-node_at.node.now) c.in-Some.ensures c.in-Some-node_at.ensures in
    ap length c.deref-2.ensures.value ∙ sym (length-map c.in-Some.record.now.annotation_types.own.items seen_type) ∙ same ∙ length-map c.in-Some-node_at.node.now.annotations.items seen_annotation ∙ ap length (sym c.deref.ensures.value)

pub new-requires-clause-are_few : goal.new-requires-clause-are_few
new-requires-clause-are_few c =
    let few = few_own (lists_seen c.accepted_lists-lists.result.now) c.accepted_lists-lists.ensures.accepted c.in-Some.record.now.node (seen_node c.in-Some-node_at.node.now) c.in-Some-node_at.ensures in
    let e = ap length c.deref.ensures.value ∙ sym (length-map c.in-Some-node_at.node.now.annotations.items seen_annotation) in
    subst (λ n. n < 2 ^ 29) (sym e) few

pub returns-clause-whole : goal.returns-clause-whole
returns-clause-whole c = ap annotations_of (c.new.ensures.entries ∙ same_parts c.deref.result.now c.in-Some-node_at.node.now.annotations.items c.deref-2.result.now c.in-Some.record.now.annotation_types.own.items c.deref.ensures.value c.deref-2.ensures.value
    ∙ struct_is (lists_seen c.accepted_lists-lists.result.now) c.accepted_lists-lists.ensures.accepted c.args.brand (seen_brand c.in-Some.record.now) (seen_node c.in-Some-node_at.node.now) c.in-Some.ensures c.in-Some-node_at.ensures
    ∙ ap (λ (l : Lists). struct_annotations (lists_seen l) c.args.brand) c.accepted_lists-lists.ensures.is)
    ∙ struct_whole_everywhere (lists_seen c.args.schemas.now) (subst (λ (l : Lists). IsAccepted (lists_seen l)) c.accepted_lists-lists.ensures.is c.accepted_lists-lists.ensures.accepted) c.args.brand

pub new-requires-clause-are_named : goal.new-requires-clause-are_named
new-requires-clause-are_named c = brand_own_named c.accepted_lists-lists.result.now c.args.schemas.now c.accepted_lists-lists.ensures.is c.accepted_lists-lists.ensures.accepted c.args.brand c.in-Some.record.now c.in-Some.ensures c.deref-2.result.now c.deref-2.ensures.value
