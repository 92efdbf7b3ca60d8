-- By the rules of an accepted set a brand has one type for each annotation of a field, of which there are few.
-- Without the brand, or types at the index, there are none.
use Rattle.std.proofs.Common.{ℕ, ◌≡◌, ◌<◌, ◌^◌, List, Some, None, slice_get, ap, sym, ◌∙◌, subst, length, map, Vec}
use Rattle.std.specs.declared.alloc.Global.{Global}
use Rattle.capnp_base.specs.declared.introspect.«Type».{«Type» as TypeHandle}
use Rattle.std.proofs.lemmas.List.{length-map}
use Rattle.capnp_schema.specs.declared.lists.Lists.{Lists}
use Rattle.capnp_schema.specs.Entries.{lists_seen}
use Rattle.capnp_schema.specs.Steps.Entries.{seen_typed}
use Rattle.capnp_schema.specs.Types.{seen_type}
use Rattle.capnp_schema.specs.Schema.{field_at, seen_annotation, seen_brand}
use Rattle.capnp_schema.specs.Accepted.{IsAccepted}
use Rattle.capnp_schema.specs.Annotated.{TypedAnnotation, annotations_of, field_annotations}
use Rattle.capnp_schema.specs.AnnotationLists.{annotations_in}
use Rattle.capnp_schema.proofs.AnnotatedLemmas.{same_parts}
use Rattle.capnp_schema.proofs.AnnotatedPlaces.{child_seen, few_at, field_has_types, field_is, field_whole, no_brand_field, no_child_field, no_child_seen}
use Rattle.capnp_schema.proofs.NamedTypes.{brand_child_named}
use Rattle.capnp_schema.proofs.schema.annotations.AnnotationList.of_field.Goals as goal

-- what is so of the lists is so of the set
whole_of : (lists set : Lists) → lists ≡ set → IsAccepted (lists_seen lists) → (b i : ℕ) (xs : List TypedAnnotation) → xs ≡ field_annotations (lists_seen set) b i → annotations_of xs ≡ (field_at (lists_seen set) b i).field.annotations
whole_of lists set is accepted b i xs e = ap annotations_of e ∙ field_whole (lists_seen set) (subst (λ (l : Lists). IsAccepted (lists_seen l)) is accepted) b i

pub returns-in_default-clause-typed : goal.returns-in_default-clause-typed
returns-in_default-clause-typed c = c.empty.ensures.entries ∙ no_brand_field (lists_seen c.accepted_lists-lists.result.now) c.args.brand c.args.field c.in_default.ensures
    ∙ ap (λ (l : Lists). field_annotations (lists_seen l) c.args.brand c.args.field) c.accepted_lists-lists.ensures.is

pub returns-in_default-clause-whole : goal.returns-in_default-clause-whole
returns-in_default-clause-whole c = whole_of c.accepted_lists-lists.result.now c.args.schemas.now c.accepted_lists-lists.ensures.is c.accepted_lists-lists.ensures.accepted c.args.brand c.args.field (annotations_in c.empty.result) (returns-in_default-clause-typed c)

pub returns-in_default-entry_at-clause-typed : goal.returns-in_default-entry_at-clause-typed
returns-in_default-entry_at-clause-typed c = c.empty-in_default-entry_at.ensures.entries ∙ no_child_field (lists_seen c.accepted_lists-lists.result.now) c.args.brand c.args.field (seen_brand c.in-Some.record.now) c.in-Some.ensures
    (no_child_seen c.in-Some.record.now.annotation_types.children.items c.args.field (subst (λ xs. None ≡ slice_get xs c.args.field) c.deref.ensures.value c.in_default-entry_at.ensures))
    ∙ ap (λ (l : Lists). field_annotations (lists_seen l) c.args.brand c.args.field) c.accepted_lists-lists.ensures.is

pub returns-in_default-entry_at-clause-whole : goal.returns-in_default-entry_at-clause-whole
returns-in_default-entry_at-clause-whole c = whole_of c.accepted_lists-lists.result.now c.args.schemas.now c.accepted_lists-lists.ensures.is c.accepted_lists-lists.ensures.accepted c.args.brand c.args.field (annotations_in c.empty-in_default-entry_at.result) (returns-in_default-entry_at-clause-typed c)

-- what is found of the field's types
children : (xs ys : List (Vec TypeHandle Global)) (types : Vec TypeHandle Global) (i : ℕ) → xs ≡ ys → Some types ≡ slice_get xs i → Some (map seen_type types.items) ≡ slice_get (map (λ (ts : Vec TypeHandle Global). map seen_type ts.items) ys) i
children xs ys types i same at = child_seen ys types i (subst (λ zs. Some types ≡ slice_get zs i) same at)

pub new-requires-clause-have_types : goal.new-requires-clause-have_types
new-requires-clause-have_types c =
    let same = field_has_types (lists_seen c.accepted_lists-lists.result.now) c.accepted_lists-lists.ensures.accepted c.args.brand c.args.field (seen_brand c.in-Some.record.now) (seen_typed c.in-Some-field_at.typed) (map seen_type c.in-Some-entry_at.types.now.items)
    c.in-Some.ensures c.in-Some-field_at.ensures (children c.deref.result.now c.in-Some.record.now.annotation_types.children.items c.in-Some-entry_at.types.now c.args.field c.deref.ensures.value c.in-Some-entry_at.ensures) in
    ap length c.deref-3.ensures.value ∙ sym (length-map c.in-Some-entry_at.types.now.items seen_type) ∙ same ∙ length-map c.in-Some-field_at.typed.field.now.annotations.items seen_annotation ∙ ap length (sym c.deref-2.ensures.value)

pub new-requires-clause-are_few : goal.new-requires-clause-are_few
new-requires-clause-are_few c =
    let few = few_at (lists_seen c.accepted_lists-lists.result.now) c.accepted_lists-lists.ensures.accepted c.args.brand c.args.field (seen_typed c.in-Some-field_at.typed) c.in-Some-field_at.ensures in
    let e = ap length c.deref-2.ensures.value ∙ sym (length-map c.in-Some-field_at.typed.field.now.annotations.items seen_annotation) in
    subst (λ n. n < 2 ^ 29) (sym e) few

pub returns-clause-typed : goal.returns-clause-typed
returns-clause-typed c = c.new.ensures.entries ∙ same_parts c.deref-2.result.now c.in-Some-field_at.typed.field.now.annotations.items c.deref-3.result.now c.in-Some-entry_at.types.now.items c.deref-2.ensures.value c.deref-3.ensures.value
    ∙ field_is (lists_seen c.accepted_lists-lists.result.now) c.args.brand c.args.field (seen_brand c.in-Some.record.now) (seen_typed c.in-Some-field_at.typed) (map seen_type c.in-Some-entry_at.types.now.items)
    c.in-Some.ensures c.in-Some-field_at.ensures (children c.deref.result.now c.in-Some.record.now.annotation_types.children.items c.in-Some-entry_at.types.now c.args.field c.deref.ensures.value c.in-Some-entry_at.ensures)
    ∙ ap (λ (l : Lists). field_annotations (lists_seen l) c.args.brand c.args.field) c.accepted_lists-lists.ensures.is

pub returns-clause-whole : goal.returns-clause-whole
returns-clause-whole c = whole_of c.accepted_lists-lists.result.now c.args.schemas.now c.accepted_lists-lists.ensures.is c.accepted_lists-lists.ensures.accepted c.args.brand c.args.field (annotations_in c.new.result) (returns-clause-typed c)

pub new-requires-clause-are_named : goal.new-requires-clause-are_named
new-requires-clause-are_named c = brand_child_named c.accepted_lists-lists.result.now c.args.schemas.now c.accepted_lists-lists.ensures.is c.accepted_lists-lists.ensures.accepted c.args.brand c.in-Some.record.now c.in-Some.ensures c.deref.result.now c.in-Some-entry_at.types.now c.args.field c.deref-3.result.now c.deref.ensures.value c.in-Some-entry_at.ensures c.deref-3.ensures.value
